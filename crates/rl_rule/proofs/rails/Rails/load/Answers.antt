use Rattle.std.proofs.Common.{◌≡◌, ◌<◌, ◌∙◌, sym, ap, subst, arith}
use Rattle.rl_base.specs.Layout.{word_count}
use Rattle.rl_tables.specs.declared.table.Tables.{Tables}
use Rattle.rl_tables.specs.Starts.{layout_of}
use Rattle.rl_rule.specs.declared.views.Load.{Load}
use Rattle.rl_rule.specs.Plays.{Sat}
use Rattle.rl_rule.proofs.Known.{ChainLaws, MergeLaws, MomentLaws}
use Rattle.rl_rule.proofs.LoadKeeps.{load_keeps}
use Rattle.rl_rule.proofs.Walks.{stamp_fits, word_there}
use Rattle.rl_rule.proofs.rails.Rails.load.Goals as goal

pub load-value-requires : goal.load-value-requires
load-value-requires c =
    let rails = c.args.self.now in
    let node = c.args.seat.now in
    let chains : ChainLaws = record {
      chained = c.chains_of_runs.ensures.chained;
      left = c.chains_of_runs.ensures.left;
      clocks = c.chains_of_runs.ensures.clocks;
    } in
    let merges : MergeLaws = record {
      merge = c.chained_runs.ensures.merge;
      run = c.chained_runs.ensures.run;
      words = c.chained_runs.ensures.words;
      minds = c.chained_runs.ensures.minds;
      clocks = c.chained_runs.ensures.clocks;
    } in
    let moments : MomentLaws = record { chains = chains; merges = merges; runs = c.sound_runs.ensures } in (
      c.requires.own,
      omega (arith, rails.words, c.requires.there),
      load_keeps record { runs = c.sound_runs.ensures; steps = c.steps_of_owners.ensures; owners = c.one_owner.ensures } moments
          rails.table.shared.key.line.value rails.table.shared.key.tries rails.table.shared.table_id.slots node.seat.id c.args.w.0 node.seat.me node.role
          (subst (λ (t : Tables). c.args.w.0 < word_count (layout_of t)) (sym rails.line) c.requires.there),
    )

pub invariant_of-seat : goal.invariant_of-seat
invariant_of-seat c =
    let old = c.args.seat.now in
    let rails = c.args.self.now in
    let after = c.load-value.ensures.2.0 in
    let load : Load = record { word = c.args.w; value = c.load-value.result } in
    let words : c.load-value.new.seat.table_id.words ≡ rails.table.shared.table_id.words = ap (λ t. t.words) (c.load-value.ensures.0 ∙ c.requires.own) in
    record {
      role = ap (λ (m : Sat). m.0.role) after ∙ old.role;
      slots = ap (λ (m : Sat). m.1) after ∙ old.slots;
      node_is = ap (λ (m : Sat). m.0.walk.node) after ∙ old.node_is;
      clock_is = ap (λ (m : Sat). m.0.walk.clock) after ∙ old.clock_is;
      load_is = ap (λ (m : Sat). m.0.walk.load) after;
      clock_fits = old.clock_fits;
      stamp_fits = λ l is. stamp_fits load l is c.load-value.ensures.2.1.room;
      word_there = λ l is. word_there load l c.load-value.new.seat.table_id.words is (omega (arith, rails.words, c.requires.there));
    }
