-- A core at its start is reached by the empty run.
use Rattle.std.proofs.Common.{
  ◌≡◌,
  ℕ,
  zero,
  suc,
  ◌<◌,
  ◌≤◌,
  List,
  [],
  ◌∷◌,
  length,
  slice_get,
  slice_index_or,
  replicate,
  Some,
  None,
  refl,
  sym,
  ap,
  ◌∙◌,
  inl,
  inr,
  arith,
}
use Rattle.std.proofs.Math.Path.{fun_ext}
use Rattle.std.proofs.lemmas.Bool.{cases_lt}
use Rattle.std.proofs.lemmas.Bool.Decides.{nat_tests}
use Rattle.rl_base.specs.declared.layout.Layout.{Layout}
use Rattle.rl_base.specs.Layout.{node_count, word_count}
use Rattle.rl_tables.specs.declared.table.Tables.{Tables}
use Rattle.rl_tables.specs.Starts.{layout_of}
use Rattle.rl_steps.specs.declared.mind.Mind.{Mind}
use Rattle.rl_steps.specs.declared.mind.Mind.TheVariants.{Machine}
use Rattle.rl_steps.specs.Numbers.{node_at}
use Rattle.rl_steps.specs.State.{start_mind, start_words}
use Rattle.rl_steps.specs.Turn.{start_drive}
use Rattle.rl_steps.proofs.Starts.{start_words-length}
use Rattle.rl_core.specs.Cores.{Core, LeadsTo, HasSizes}
use Rattle.rl_core.specs.Starts.{AreStartMinds}

-- a node that isn't there has the mind of a machine
pub past : (lay : Layout) (n : ℕ) → node_count lay ≤ n → node_at lay n ≡ None
past lay n over = grind (arith, nat_tests)

past_mind : (tables : Tables) (tries n : ℕ) → node_count (layout_of tables) ≤ n → start_mind tables tries n ≡ Machine record {}
past_mind tables tries n over = rw (past (layout_of tables) n over) refl

zeros : (k n : ℕ) → slice_index_or {A = ℕ} (replicate {A = ℕ} k 0) n 0 ≡ 0
zeros zero n = refl
zeros (suc k) zero = refl
zeros (suc k) (suc n) = zeros k n

zeros_get : (k n : ℕ) → n < k → slice_get {X = ℕ} (replicate {A = ℕ} k 0) n ≡ Some 0
zeros_get zero n within = absurd (omega arith)
zeros_get (suc k) zero within = refl
zeros_get (suc k) (suc n) within = zeros_get k n (omega arith)

zeros_length : (k : ℕ) → length {A = ℕ} (replicate {A = ℕ} k 0) ≡ k
zeros_length zero = refl
zeros_length (suc k) = ap suc (zeros_length k)

over_minds : (minds : List Mind) (n : ℕ) → length minds ≤ n → slice_index_or minds n (Machine record {}) ≡ Machine record {}
over_minds [] n over = refl
over_minds (m ∷ ms) zero over = absurd (omega arith)
over_minds (m ∷ ms) (suc n) over = over_minds ms n (omega arith)

same_mind : (tables : Tables) (tries : ℕ) (minds : List Mind) (n : ℕ) → AreStartMinds tables tries (node_count (layout_of tables)) minds
    → slice_index_or minds n (Machine record {}) ≡ start_mind tables tries n
same_mind tables tries minds n are =
    elim (cases_lt n (node_count (layout_of tables))) [
      | inl within ↦ are.each n within
      | inr over ↦ over_minds minds n (omega (arith, are.size)) ∙ sym (past_mind tables tries n over)
    ]

-- the core at the start
abbrev pub core_at : Tables → ℕ → List Mind → Core
core_at tables tries minds =
    record {
      line = tables;
      tries = tries;
      words = start_words tables (word_count (layout_of tables));
      minds = minds;
      clocks = replicate (node_count (layout_of tables)) 0;
      scans = replicate (node_count (layout_of tables)) 0;
      events = 0;
    }

pub start_leads : (tables : Tables) (tries : ℕ) (minds : List Mind) → AreStartMinds tables tries (node_count (layout_of tables)) minds
    → LeadsTo start_drive (core_at tables tries minds)
start_leads tables tries minds are =
    let as_start : (λ n. slice_index_or minds n (Machine record {})) ≡ start_mind tables tries = fun_ext (λ n. same_mind tables tries minds n are) in
    let no_clock : ℕ → ℕ = λ n. 0 in
    let no_clocks : (λ n. slice_index_or {A = ℕ} (replicate {A = ℕ} (node_count (layout_of tables)) 0) n 0) ≡ no_clock = fun_ext
    (λ n. zeros (node_count (layout_of tables)) n) in
    record {
      run = tt;
      state = rw (as_start, no_clocks) refl;
      scans = λ n there. zeros_get (node_count (layout_of tables)) n there;
      events = refl;
    }

pub start_sizes : (tables : Tables) (tries : ℕ) (minds : List Mind) → AreStartMinds tables tries (node_count (layout_of tables)) minds
    → HasSizes (core_at tables tries minds)
start_sizes tables tries minds are =
    record {
      words = start_words-length tables (word_count (layout_of tables));
      minds = are.size;
      clocks = zeros_length (node_count (layout_of tables));
      scans = zeros_length (node_count (layout_of tables));
    }
