use Rattle.std.proofs.Common.{◌≡◌, length, ◌∙◌, sym, ap, arith}
use Rattle.rl_base.specs.Layout.{word_count}
use Rattle.rl_tables.specs.declared.table.Tables.{Tables}
use Rattle.rl_tables.specs.Starts.{layout_of}
use Rattle.rl_steps.proofs.Starts.{start_words-length}
use Rattle.rl_rule.specs.declared.rule.Key.{Key}
use Rattle.rl_rule.specs.Plays.{Sat}
use Rattle.rl_rule.proofs.SeatKeeps.{start_keeps}
use Rattle.rl_rule.proofs.rails.Rails.lay.Goals as goal

pub of_words-requires : goal.of_words-requires
of_words-requires c =
    rw (c.of.ensures, c.as_slice.ensures.value, c.in_ok-words.ensures.words)
    (start_keeps c.args.line.now c.args.tries c.start_words.ensures.line c.requires.few_tries)

pub invariant_of-result : goal.invariant_of-result
invariant_of-result c =
    let made = c.in_ok-table.ensures in
    let line : c.in_ok-table.root.me.0.line ≡ c.of.result.value = ap (λ (m : Sat). m.0.line) made.4 in
    let size : length c.as_slice.result.now ≡ word_count (layout_of c.args.line.now) =
    ap length (c.as_slice.ensures.value ∙ c.in_ok-words.ensures.words) ∙ start_words-length c.args.line.now (word_count (layout_of c.args.line.now)) in
    record {
      own = made.2;
      line = ap (λ (k : Key). k.line.value) made.5 ∙ sym line;
      tries = ap (λ (k : Key). k.tries) made.5 ∙ sym (ap (λ (m : Sat). m.0.tries) made.4);
      role = ap (λ (m : Sat). m.0.role) made.4;
      words = made.0 ∙ (size ∙ sym (ap (λ (t : Tables). word_count (layout_of t)) (line ∙ c.of.ensures)));
      slots = made.1;
      empty = c.in_ok-room.ensures.items;
      has_room = omega (arith, made.0, size, ap length c.in_ok-words.ensures.words, c.in_ok-room.ensures.exact, c.len.ensures);
    }
