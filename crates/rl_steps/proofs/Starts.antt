-- The words at the start, by their places.
use Rattle.std.proofs.Common.{◌≡◌, ℕ, zero, suc, ◌<◌, [], ◌∷◌, ◌++◌, length, slice_get, Some, refl, ◌∙◌, inl, inr, subst, arith}
use Rattle.std.proofs.lemmas.Grind.{common_steps}
use Rattle.std.proofs.lemmas.Bool.{cases_eq}
use Rattle.rl_base.proofs.Lists.{slice_get-append, slice_get-push}
use Rattle.rl_tables.specs.declared.table.Tables.{Tables}
use Rattle.rl_steps.specs.State.{start_word, start_words}

pub start_words-length : (tables : Tables) (n : ℕ) → length (start_words tables n) ≡ n
start_words-length tables zero = refl
start_words-length tables (suc n) = let e : length (start_words tables n) ≡ n = start_words-length tables n in grind (arith, common_steps, e)

pub start_words-get : (tables : Tables) (n w : ℕ) → w < n → slice_get (start_words tables n) w ≡ Some (start_word tables w)
start_words-get tables zero w within = absurd (omega arith)
start_words-get tables (suc n) w within =
    elim (cases_eq w n) [
      | inl same ↦
          let e : length (start_words tables n) ≡ n = start_words-length tables n in
          let P : ℕ → Type 0 = λ k. slice_get (start_words tables n ++ start_word tables n ∷ []) k ≡ Some (start_word tables n) in
          rw same (subst P e (slice_get-push (start_words tables n) (start_word tables n)))
      | inr other ↦
          let e : length (start_words tables n) ≡ n = start_words-length tables n in
          slice_get-append (start_words tables n) (start_word tables n ∷ []) w (omega arith) ∙ start_words-get tables n w (omega arith)
    ]
