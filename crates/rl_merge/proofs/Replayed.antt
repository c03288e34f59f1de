-- The merge of chained histories leads to all words and clocks that they left.
use Rattle.std.proofs.Common.{◌≡◌, ℕ, zero, suc, List, [], ◌∷◌, length, slice_get, slice_set, Some, refl, sym, ap, ◌∙◌, arith}
use Rattle.std.proofs.lemmas.List.{length-set}
use Rattle.rl_base.specs.Layout.{word_count}
use Rattle.rl_record.specs.declared.event.Event.{Event}
use Rattle.rl_record.specs.Merge.{IsMerge}
use Rattle.rl_tables.specs.declared.table.Tables.{Tables}
use Rattle.rl_tables.specs.Starts.{layout_of}
use Rattle.rl_steps.specs.declared.mind.Mind.{Mind}
use Rattle.rl_steps.specs.Run.{state}
use Rattle.rl_steps.proofs.Starts.{start_words-length}
use Rattle.rl_merge.specs.Chains.{clock_left, AreChained, AreLeft}
use Rattle.rl_merge.proofs.Chained.{chained_run, chained_words}
use Rattle.rl_merge.proofs.Chaining.{led_run}

same_lists : {A : Type 0} (xs ys : List A) → length xs ≡ length ys → ((i : ℕ) (x : A) → slice_get xs i ≡ Some x → slice_get ys i ≡ Some x) → xs ≡ ys
same_lists [] [] long same = refl
same_lists [] (y ∷ ys) long same = absurd (omega arith)
same_lists (x ∷ xs) [] long same = absurd (omega arith)
same_lists (x ∷ xs) (y ∷ ys) long same =
    let head : Some y ≡ Some x = same zero x refl in
    let rest : xs ≡ ys = same_lists xs ys (omega arith) (λ i z at. same (suc i) z at) in
    cc

state_words : (tables : Tables) (tries : ℕ) (log : List Event) → length (state tables tries log).words ≡ word_count (layout_of tables)
state_words tables tries [] = start_words-length tables (word_count (layout_of tables))
state_words tables tries (e ∷ log) = length-set (state tables tries log).words e.word.0 e.now ∙ state_words tables tries log

pub chained_all_words : (tables : Tables) (tries : ℕ) (h : ℕ → List Event) (merged : List Event) (words : List ℕ) (minds : ℕ → Mind)
    → AreChained tables tries h → IsMerge h merged → AreLeft tables tries h words minds → length words ≡ word_count (layout_of tables)
    → (state tables tries merged).words ≡ words
chained_all_words tables tries h merged words minds chained merge left size =
    sym (same_lists words (state tables tries merged).words (size ∙ sym (state_words tables tries merged))
    (chained_words tables tries h merged words minds chained merge left))

pub chained_clocks : (tables : Tables) (tries : ℕ) (h : ℕ → List Event) (merged : List Event) → AreChained tables tries h → IsMerge h merged
    → (n : ℕ) → (state tables tries merged).clocks n ≡ clock_left (h n)
chained_clocks tables tries h merged chained merge n =
    (led_run tables tries merged (chained_run tables tries h merged chained merge)).clocks n ∙ ap clock_left (merge.parts n)
