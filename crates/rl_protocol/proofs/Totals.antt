-- All that the steps of a run weigh is at most what the attempts opened can weigh.
use Rattle.std.proofs.Common.{◌≡◌, ℕ, zero, suc, ◌+◌, ◌-◌, ◌*◌, ◌<◌, ◌≤◌, cond, List, [], ◌∷◌, length, length-append, Option, Some, None, refl, ap, ◌∙◌, inl}
use Rattle.std.proofs.Common.{inr, ◌⊎◌, ⊎_elim, arith}
use Rattle.std.specs.Prelude.{option_to_list}
use Rattle.std.proofs.lemmas.Bool.{cases_eq, cases_lt, eq-eqb}
use Rattle.std.proofs.lemmas.List.Sums.{sum_by-cons}
use Rattle.std.proofs.lemmas.Bool.Decides.{nat_tests}
use Rattle.rl_base.specs.declared.ids.TrainId.{TrainId}
use Rattle.rl_base.specs.declared.job.Verb.{Verb}
use Rattle.rl_base.specs.declared.job.Verb.TheVariants as verbs
use Rattle.rl_base.specs.declared.limits.TheConstants.{MAX_ATTEMPT_EVENTS, MAX_ATTEMPT_NODE_EVENTS, MAX_ATTEMPT_MOVES}
use Rattle.rl_base.specs.declared.layout.NodeKind.{NodeKind}
use Rattle.rl_base.specs.declared.layout.NodeKind.TheVariants.{Train, Track, Box, Machine}
use Rattle.rl_model.specs.declared.moves.Move.{Move}
use Rattle.rl_words.specs.declared.mail.Letter.{Letter}
use Rattle.rl_protocol.specs.Line.{Line, IsConsistent}
use Rattle.rl_protocol.specs.State.{State}
use Rattle.rl_protocol.specs.Steps.{Step, StepFits, next}
use Rattle.rl_protocol.specs.StepMoves.{move_of, refusal_of}
use Rattle.rl_protocol.specs.Nodes.{node_of}
use Rattle.rl_protocol.specs.Runs.{state_after, IsStepRun, moves_of}
use Rattle.rl_protocol.specs.Agreement.{Agrees}
use Rattle.rl_protocol.specs.Counts.{same_node, events_of, attempts_opened}
use Rattle.rl_protocol.proofs.Known.{Known}
use Rattle.rl_protocol.proofs.Jobs.{begins_passes}
use Rattle.rl_protocol.proofs.Agreed.{agrees, known_of}
use Rattle.rl_protocol.proofs.Ranks.{Weights, weight, about, attempt_weight, rank, rank_starts}
use Rattle.rl_protocol.proofs.Counted.{weight_for, raised_or_opened, bounded}

-- what the steps weigh for train t, and what all of them weigh
abbrev weighed : Weights → ℕ → List Step → ℕ
weighed w t [] = 0
weighed w t (step ∷ steps) = weight_for w t step + weighed w t steps

abbrev total : Weights → List Step → ℕ
total w [] = 0
total w (step ∷ steps) = weight w step + total w steps

-- what a train's steps weigh, with what its attempts left could weigh, is at most its rank and what all could weigh
step_total : (full before left left2 rank1 rank2 tries d : ℕ) → before + full + full * left ≤ rank1 + full * tries
    → ((left2 ≡ left) × (rank1 + d ≤ rank2)) ⊎ ((left ≡ left2 + 1) × (rank1 + d ≤ rank2 + full)) → (d + before) + full + full * left2 ≤ rank2 + full * tries
step_total full before left left2 rank1 rank2 tries d h (inl e) = let same : full * left2 ≡ full * left = ap (λ z. full * z) e.0 in let more = e.1 in
    omega arith
step_total full before left left2 rank1 rank2 tries d h (inr e) = let same : full * left ≡ full * left2 + full = ap (λ z. full * z) e.0 ∙ more full left2 in
    let weighs = e.1 in omega arith
  where
    more : (m n : ℕ) → m * (n + 1) ≡ m * n + m
    more m n = omega arith

weighed_is : (w : Weights) (line : Line) (tries : ℕ) (steps : List Step) (t : ℕ) → IsConsistent line → IsStepRun line tries steps
    → let s = state_after line tries steps in
    weighed w t steps + attempt_weight w + attempt_weight w * (s.trains t).left ≤ rank w s t + attempt_weight w * tries
weighed_is w line tries [] t laws run = let at_start = rank_starts w line tries t in omega arith
weighed_is w line tries (step ∷ steps) t laws run =
    let s = state_after line tries steps in
    let old = agrees line tries steps laws run.0 in
    step_total (attempt_weight w) (weighed w t steps) (s.trains t).left ((next line s step).trains t).left (rank w s t) (rank w (next line s step) t) tries
    (weight_for w t step)
    (weighed_is w line tries steps t laws run.0)
    (raised_or_opened w line s t step (old.passage t) run.1 (known_of line tries s step old run.1))

-- so it is at most what the attempts opened can weigh
weighed_most : (full w left rank1 tries : ℕ) → w + full + full * left ≤ rank1 + full * tries → rank1 ≤ full → left ≤ tries → w ≤ full * (tries - left)
weighed_most full w left rank1 tries h most within =
    let same : full * tries ≡ full * left + full * (tries - left) = ap (λ z. full * z) (split tries left within) ∙ distribute full left (tries - left) in
    omega arith
  where
    split : (m n : ℕ) → n ≤ m → m ≡ n + (m - n)
    split m n h = omega arith

    distribute : (m n k : ℕ) → m * (n + k) ≡ m * n + m * k
    distribute m n k = omega arith

train_weighs : (w : Weights) (line : Line) (tries : ℕ) (steps : List Step) (t : ℕ) → IsConsistent line → IsStepRun line tries steps
    → weighed w t steps ≤ attempt_weight w * (tries - ((state_after line tries steps).trains t).left)
train_weighs w line tries steps t laws run =
    let s = state_after line tries steps in
    let old = agrees line tries steps laws run in
    let attempts = (old.attempts t).total in
    weighed_most (attempt_weight w) (weighed w t steps) (s.trains t).left (rank w s t) tries (weighed_is w line tries steps t laws run)
    (bounded w line tries s t old) (omega arith)

-- the trains below a number together
abbrev weighed_below : Weights → ℕ → List Step → ℕ
weighed_below w zero steps = 0
weighed_below w (suc t) steps = weighed w t steps + weighed_below w t steps

below_weigh : (w : Weights) (line : Line) (tries : ℕ) (steps : List Step) (n : ℕ) → IsConsistent line → IsStepRun line tries steps
    → weighed_below w n steps ≤ attempt_weight w * attempts_opened tries (state_after line tries steps) n
below_weigh w line tries steps zero laws run = omega arith
below_weigh w line tries steps (suc t) laws run =
    let opened = tries - ((state_after line tries steps).trains t).left in
    let same : attempt_weight w * (opened + attempts_opened tries (state_after line tries steps) t) ≡ attempt_weight w * opened
    + attempt_weight w * attempts_opened tries (state_after line tries steps) t =
    distribute (attempt_weight w) opened (attempts_opened tries (state_after line tries steps) t) in
    omega (arith, train_weighs w line tries steps t laws run, below_weigh w line tries steps t laws run)
  where
    distribute : (m n k : ℕ) → m * (n + k) ≡ m * n + m * k
    distribute m n k = omega arith

-- each step is about a train that is under way
pub about_within : (line : Line) (tries : ℕ) (s : State) (step : Step) → Agrees line tries s → StepFits line s step → Known line s step
    → line.steps (about step) ≡ 0 → ⊥
about_within line tries s step agrees fits known none =
    let attempts = agrees.attempts (about step) in
    let within = attempts.within in
    let under_way = attempts.under_way in
    let passage = agrees.passage (about step) in
    let stands = passage.stands in
    grind (arith, nat_tests, begins_passes)

-- what a step weighs for the trains below a number is what it weighs, if it is about one of them
abbrev here_below : Weights → ℕ → Step → ℕ
here_below w zero step = 0
here_below w (suc t) step = weight_for w t step + here_below w t step

here_most : (w : Weights) (n : ℕ) (step : Step) → about step < n → weight w step ≤ here_below w n step
here_most w zero step h = absurd (omega arith)
here_most w (suc t) step h =
    ⊎_elim (λ e. let own : weight_for w t step ≡ weight w step = ap (λ c. cond c (weight w step) 0) (eq-eqb (about step) t e) in omega arith)
    (λ e. let rest = here_most w t step (omega arith) in omega arith)
    (cases_eq (about step) t)

more_below : (w : Weights) (n : ℕ) (step : Step) (steps : List Step) → weighed_below w n (step ∷ steps) ≡ here_below w n step + weighed_below w n steps
more_below w zero step steps = refl
more_below w (suc t) step steps = let before = more_below w t step steps in omega arith

total_below : (w : Weights) (line : Line) (tries : ℕ) (steps : List Step) (n : ℕ) → IsConsistent line → ((t : ℕ) → n ≤ t → line.steps t ≡ 0)
    → IsStepRun line tries steps → total w steps ≤ weighed_below w n steps
total_below w line tries [] n laws others run = omega arith
total_below w line tries (step ∷ steps) n laws others run =
    let s = state_after line tries steps in
    let old = agrees line tries steps laws run.0 in
    let inside : about step < n =
    ⊎_elim (λ h. h) (λ h. absurd (about_within line tries s step old run.1 (known_of line tries s step old run.1) (others (about step) h)))
    (cases_lt (about step) n) in
    omega (arith, here_most w n step inside, more_below w n step steps, total_below w line tries steps n laws others run.0)

-- so all steps weigh at most what the attempts opened can
pub total_most : (w : Weights) (line : Line) (tries : ℕ) (steps : List Step) (n : ℕ) → IsConsistent line → ((t : ℕ) → n ≤ t → line.steps t ≡ 0)
    → IsStepRun line tries steps → total w steps ≤ attempt_weight w * attempts_opened tries (state_after line tries steps) n
total_most w line tries steps n laws others run = omega (arith, total_below w line tries steps n laws others run, below_weigh w line tries steps n laws run)

-- every step, those of a kind of node, and those with a move
each_step : Weights
each_step =
    record {
      post = 1;
      hear = 1;
      take = 1;
      grant = 1;
      tell = 1;
      deny = 1;
      tell_no = 1;
      turn = 1;
      throw = 1;
      settle = 1;
      go = 1;
      enter = 1;
      head = 1;
      leave =
          1;
      tail = 1;
      quiet = 1;
      fair = omega arith;
    }

by_train : Weights
by_train =
    record {
      post = 1;
      hear = 1;
      take = 0;
      grant = 0;
      tell = 0;
      deny = 0;
      tell_no = 0;
      turn = 0;
      throw = 0;
      settle = 0;
      go = 1;
      enter = 0;
      head = 0;
      leave =
          0;
      tail = 0;
      quiet = 1;
      fair = omega arith;
    }

by_track : Weights
by_track =
    record {
      post = 0;
      hear = 0;
      take = 0;
      grant = 0;
      tell = 0;
      deny = 0;
      tell_no = 0;
      turn = 0;
      throw = 0;
      settle = 0;
      go = 0;
      enter = 1;
      head = 1;
      leave =
          1;
      tail = 1;
      quiet = 0;
      fair = omega arith;
    }

by_box : Weights
by_box =
    record {
      post = 0;
      hear = 0;
      take = 1;
      grant = 1;
      tell = 1;
      deny = 1;
      tell_no = 1;
      turn = 1;
      throw = 0;
      settle = 0;
      go = 0;
      enter = 0;
      head = 0;
      leave =
          0;
      tail = 0;
      quiet = 0;
      fair = omega arith;
    }

by_machine : Weights
by_machine =
    record {
      post = 0;
      hear = 0;
      take = 0;
      grant = 0;
      tell = 0;
      deny = 0;
      tell_no = 0;
      turn = 0;
      throw = 1;
      settle = 1;
      go = 0;
      enter = 0;
      head = 0;
      leave =
          0;
      tail = 0;
      quiet = 0;
      fair = omega arith;
    }

with_move : Weights
with_move =
    record {
      post = 0;
      hear = 0;
      take = 0;
      grant = 1;
      tell = 0;
      deny = 0;
      tell_no = 1;
      turn = 0;
      throw = 1;
      settle = 1;
      go = 0;
      enter = 1;
      head = 0;
      leave =
          1;
      tail = 0;
      quiet = 0;
      fair = omega arith;
    }

abbrev by_node : NodeKind → Weights
by_node (Train t) = by_train
by_node (Track t) = by_track
by_node (Box b) = by_box
by_node (Machine b) = by_machine

all_weigh : (step : Step) → 1 ≤ weight each_step step
unfolding each_step
all_weigh step = grind arith

node_weighs : (node : NodeKind) (step : Step) → cond (same_node (node_of step) node) 1 0 ≤ weight (by_node node) step
unfolding by_train by_track by_box by_machine
node_weighs (Train t) step = grind (arith, nat_tests)
node_weighs (Track t) step = grind (arith, nat_tests)
node_weighs (Box b) step = grind (arith, nat_tests)
node_weighs (Machine b) step = grind (arith, nat_tests)

node_most : (node : NodeKind) → attempt_weight (by_node node) ≤ MAX_ATTEMPT_NODE_EVENTS
unfolding by_train by_track by_box by_machine
node_most (Train t) = omega arith
node_most (Track t) = omega arith
node_most (Box b) = omega arith
node_most (Machine b) = omega arith

refusal_weighs : (line : Line) (b t : ℕ) (l : Letter) (u : TrainId) (v : Verb) → length (option_to_list (refusal_of line b t l u v)) ≤ 1
refusal_weighs line b t l u verbs.Reserve = omega arith
refusal_weighs line b t l u verbs.Lock = omega arith
refusal_weighs line b t l u verbs.Release = omega arith
refusal_weighs line b t l u verbs.Unlock = omega arith

one_at_most : (o : Option Move) → length (option_to_list o) ≤ 1
one_at_most None = omega arith
one_at_most (Some m) = omega arith

move_weighs : (line : Line) (step : Step) → length (option_to_list (move_of line step)) ≤ weight with_move step
unfolding with_move
move_weighs line step = grind (arith, one_at_most)

-- the counts
count_all : (steps : List Step) → length steps ≤ total each_step steps
count_all [] = omega arith
count_all (step ∷ steps) = omega (arith, all_weigh step, count_all steps)

count_node : (node : NodeKind) (steps : List Step) → events_of node steps ≤ total (by_node node) steps
count_node node [] = omega arith
count_node node (step ∷ steps) =
    omega (arith, sum_by-cons (λ x. cond (same_node (node_of x) node) 1 0) step steps, node_weighs node step, count_node node steps)

count_moves : (line : Line) (steps : List Step) → length (moves_of line steps) ≤ total with_move steps
count_moves line [] = omega arith
count_moves line (step ∷ steps) =
    omega (arith, length-append (moves_of line steps) (option_to_list (move_of line step)), move_weighs line step, count_moves line steps)

-- a product of a smaller number
times : (m n p : ℕ) → m ≤ n → m * p ≤ n * p
times m n p h = grind arith

pub events_most : (line : Line) (tries : ℕ) (steps : List Step) (n : ℕ) → IsConsistent line → ((t : ℕ) → n ≤ t → line.steps t ≡ 0) → IsStepRun line tries steps
    → length steps ≤ MAX_ATTEMPT_EVENTS * attempts_opened tries (state_after line tries steps) n
unfolding each_step
events_most line tries steps n laws others run = omega (arith, count_all steps, total_most each_step line tries steps n laws others run)

pub node_events_most : (node : NodeKind) (line : Line) (tries : ℕ) (steps : List Step) (n : ℕ) → IsConsistent line → ((t : ℕ) → n ≤ t → line.steps t ≡ 0)
    → IsStepRun line tries steps → events_of node steps ≤ MAX_ATTEMPT_NODE_EVENTS * attempts_opened tries (state_after line tries steps) n
node_events_most node line tries steps n laws others run =
    omega (
      arith,
      count_node node steps,
      total_most (by_node node) line tries steps n laws others run,
      times (attempt_weight (by_node node)) MAX_ATTEMPT_NODE_EVENTS
          (attempts_opened tries (state_after line tries steps) n) (node_most node),
    )

pub moves_most : (line : Line) (tries : ℕ) (steps : List Step) (n : ℕ) → IsConsistent line → ((t : ℕ) → n ≤ t → line.steps t ≡ 0) → IsStepRun line tries steps
    → length (moves_of line steps) ≤ MAX_ATTEMPT_MOVES * attempts_opened tries (state_after line tries steps) n
unfolding with_move
moves_most line tries steps n laws others run = omega (arith, count_moves line steps, total_most with_move line tries steps n laws others run)

pub opened_most : (tries : ℕ) (s : State) (n : ℕ) → attempts_opened tries s n ≤ n * tries
opened_most tries s zero = omega arith
opened_most tries s (suc t) = let before = opened_most tries s t in let more : suc t * tries ≡ t * tries + tries = omega arith in omega arith
