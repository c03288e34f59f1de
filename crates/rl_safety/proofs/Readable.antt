-- After every run each word can be read.
use Rattle.std.proofs.Common.{◌≡◌, ◌≢◌, ℕ, List, [], ◌∷◌, length, Option, Some, option_map, refl, sym, ap, ◌∙◌, subst, inl, inr, arith}
use Rattle.std.specs.Option.{option_map_or}
use Rattle.std.proofs.lemmas.Bool.{cases_eq}
use Rattle.std.proofs.lemmas.List.{length-set}
use Rattle.rl_base.specs.Tries.{AreFewTries}
use Rattle.rl_base.specs.declared.layout.WordKind.{WordKind}
use Rattle.rl_base.specs.declared.layout.WordKind.TheVariants as kinds
use Rattle.rl_base.specs.Layout.{word_count, word_number, HasWord}
use Rattle.rl_record.specs.declared.event.Event.{Event}
use Rattle.rl_words.specs.declared.lock.LockWord.TheVariants.{Free}
use Rattle.rl_words.specs.declared.mail.MailWord.TheVariants.{Empty}
use Rattle.rl_words.specs.declared.run.RunWord.TheVariants.{Clear}
use Rattle.rl_words.specs.declared.sense.SenseWord.TheVariants.{Quiet}
use Rattle.rl_words.specs.Lock.{packed_lock}
use Rattle.rl_words.specs.Resv.{packed_resv}
use Rattle.rl_words.specs.Readings.{read_resv, read_lock, read_mail, read_run, read_sense}
use Rattle.rl_words.specs.Word.{Word, kind_of, read_word}
use Rattle.rl_words.specs.Word.Word.{Resv, Lock, Mail, Run, Sense}
use Rattle.rl_tables.specs.declared.table.BoxTable.{BoxTable}
use Rattle.rl_tables.specs.declared.table.Tables.{Tables}
use Rattle.rl_tables.specs.Kept.{IsLine}
use Rattle.rl_tables.specs.Starts.{layout_of, start_resv, start_lock, start_payload}
use Rattle.rl_steps.specs.Numbers.{word_at}
use Rattle.rl_steps.specs.Run as runs
use Rattle.rl_steps.specs.State.{CoreState, after}
use Rattle.rl_steps.specs.State as cores
use Rattle.rl_steps.proofs.Numbering.{word_at-number, word_at-some}
use Rattle.rl_steps.proofs.Options.{same_some}
use Rattle.rl_steps.proofs.Sounding.{runs_minded}
use Rattle.rl_steps.proofs.Starts.{start_words-length}
use Rattle.rl_protocol.specs.Agreement.{Agrees}
use Rattle.rl_protocol.specs.Line.{IsConsistent}
use Rattle.rl_protocol.specs.TableLine.{line_of}
use Rattle.rl_protocol.proofs.Moved.{item_there}
use Rattle.rl_safety.specs.Readable.{AreReadable}
use Rattle.rl_safety.specs.Reading.{read, payload_of}
use Rattle.rl_safety.proofs.Events.{IsEventStep}
use Rattle.rl_safety.proofs.Payloads.{has_word-true, payload_changed, payload_kept}
use Rattle.rl_safety.proofs.Runs.{Laws, Agreeing, event_step, run_stepped}
use Rattle.rl_safety.proofs.Started.{ReadsValues, payload_start, resv_fits}

-- at the start each word is the packing of what the tables say
start_readable : ReadsValues → (tables : Tables) (tries : ℕ) → IsLine tables → AreReadable tables (cores.start tables tries)
start_readable laws tables tries line kind there differs =
    by kind there differs (payload_start tables tries kind line (has_word-true (layout_of tables) kind there) there)
  where
    by : (kind : WordKind) → HasWord (layout_of tables) kind → kind ≢ kinds.Still
        → payload_of tables (cores.start tables tries) kind ≡ start_payload tables kind
        → (word : Word) × (read_word kind (payload_of tables (cores.start tables tries) kind) ≡ Some word)
    by kinds.Still there differs is = absurd (differs refl)
    by (kinds.Resv b) there differs is =
        let box = item_there tables.boxes b.0 there in
        let packed = is ∙ ap (λ (o : Option BoxTable). option_map_or (λ x. packed_resv (start_resv tables x)) o 0) box.1 in (
          Resv b (start_resv tables box.0),
          ap (λ n. option_map (Resv b) (read_resv n)) packed
              ∙ ap (option_map (Resv b)) (laws.resv (start_resv tables box.0) (resv_fits tables box.0 line)),
        )
    by (kinds.Lock b) there differs is =
        let box = item_there tables.boxes b.0 there in
        let packed = is ∙ ap (λ (o : Option BoxTable). option_map_or (λ x. packed_lock (start_lock x)) o 0) box.1 in
        (Lock b (Free box.0.side), ap (λ n. option_map (Lock b) (read_lock n)) packed ∙ ap (option_map (Lock b)) (laws.lock (Free box.0.side) tt))
    by (kinds.Mail t) there differs is = (Mail t Empty, ap (λ n. option_map (Mail t) (read_mail n)) is ∙ ap (option_map (Mail t)) (laws.mail Empty tt))
    by (kinds.Run t) there differs is = (
      Run t (Clear 0),
      ap (λ n. option_map (Run t) (read_run n)) is
          ∙ ap (option_map (Run t)) (laws.run (Clear 0) (omega arith)),
    )
    by (kinds.Sense t) there differs is =
        (Sense t (Quiet 0), ap (λ n. option_map (Sense t) (read_sense n)) is ∙ ap (option_map (Sense t)) (laws.sense (Quiet 0) (omega arith)))

-- an event leaves a packing at its word
after_readable : (tables : Tables) (tries : ℕ) (c : CoreState) (e : Event) → IsEventStep tables tries c e → AreReadable tables c
    → AreReadable tables (after tables c e)
after_readable tables tries c e step before kind there differs =
    elim (cases_eq (word_number (layout_of tables) kind) e.word.0) [
      | inl same ↦
          let mine : word_at (layout_of tables) e.word.0 ≡ Some kind =
          subst (λ (w : ℕ). word_at (layout_of tables) w ≡ Some kind) same (word_at-number (layout_of tables) kind there) in
          let one : kind_of step.left ≡ kind = same_some (word_at (layout_of tables) e.word.0) (kind_of step.left) kind step.on.at mine in
          let now : payload_of tables (after tables c e) kind ≡ step.new =
          payload_changed tables c e kind step.new mine step.on.was step.on.now step.on.small in
          (step.left, ap (read_word kind) now ∙ subst (λ k. read_word k step.new ≡ Some step.left) one step.reads)
      | inr other ↦
          let apart : kind ≡ kind_of step.left → ⊥ = λ same.
          other (ap (word_number (layout_of tables)) same ∙ (word_at-some (layout_of tables) e.word.0 (kind_of step.left) step.on.at).1) in
          let found = before kind there differs in
          (found.0, ap (read_word kind) (payload_kept tables c e (kind_of step.left) kind step.on.at apart) ∙ found.1)
    ]

pub runs_readable : Laws → ReadsValues → Agreeing → (tables : Tables) (tries : ℕ) (events : List Event) → IsLine tables → IsConsistent (line_of tables)
    → AreFewTries tries → runs.IsRun tables tries events → AreReadable tables (runs.state tables tries events)
runs_readable laws values agreeing tables tries [] line fine few run = start_readable values tables tries line
runs_readable laws values agreeing tables tries (e ∷ earlier) line fine few run =
    let before = run_stepped laws values agreeing tables tries earlier line fine few run.0 in
    let agrees : Agrees (line_of tables) tries (read tables tries (runs.state tables tries earlier)) =
    subst (Agrees (line_of tables) tries) (sym before.state) (agreeing (line_of tables) tries before.steps fine before.run) in
    let minded = runs_minded laws.steps tables tries earlier line few run.0 in
    after_readable tables tries (runs.state tables tries earlier) e (event_step laws tables tries (runs.state tables tries earlier) e line minded agrees run.1)
    (runs_readable laws values agreeing tables tries earlier line fine few run.0)

-- after every run all words are there
pub runs_size : (tables : Tables) (tries : ℕ) (events : List Event) → length (runs.state tables tries events).words ≡ word_count (layout_of tables)
runs_size tables tries [] = start_words-length tables (word_count (layout_of tables))
runs_size tables tries (e ∷ earlier) = length-set (runs.state tables tries earlier).words e.word.0 e.now ∙ runs_size tables tries earlier
