-- A run on a small network, worked out by hand: one train goes from A through J1 to B on the line of two segments.
use Rattle.std.specs.Prelude.{ℕ, List, [], ◌∷◌, ◌++◌}
use Rattle.rl_base.specs.declared.kind.Side.TheVariants.{Left}
use Rattle.rl_base.specs.declared.job.Verb.TheVariants.{Reserve, Release, Lock, Unlock}
use Rattle.rl_words.specs.declared.mail.Letter.{Letter}
use Rattle.rl_words.specs.Mail.{about_arm, about_passage}
use Rattle.rl_drafts.specs.Examples.{switch_box}
use Rattle.rl_tables.specs.Examples.{arm, one_train_tables}
use Rattle.rl_protocol.specs.Line.{Line}
use Rattle.rl_protocol.specs.TableLine.{line_of}
use Rattle.rl_protocol.specs.Steps.{Step, post, hear_yes, go, quiet, take, grant, release, lock_now, unlock, say_yes}
use Rattle.rl_protocol.specs.Steps.{enter, head, leave, tail}

-- what the boxes W, J1 and E and the one train know, by their tables
abbrev pub one_train_line : Line
one_train_line = line_of one_train_tables

-- a letter that box b grants, from its post to the answer heard, the newest step first
abbrev pub granted : ℕ → Letter → Step → List Step
granted b l work = hear_yes 0 l ∷ say_yes b 0 l ∷ work ∷ take b 0 l ∷ post 0 l ∷ []

-- the letters of the jobs, in order
abbrev pub near : Letter
near = about_arm (switch_box 1) Reserve (arm 1)

abbrev pub far : Letter
far = about_arm (switch_box 2) Reserve (arm 0)

abbrev pub lock : Letter
lock = about_passage (switch_box 1) Lock (arm 0) (arm 1)

abbrev pub give_back : Letter
give_back = about_passage (switch_box 1) Unlock (arm 0) (arm 1)

abbrev pub free_near : Letter
free_near = about_arm (switch_box 1) Release (arm 0)

abbrev pub free_far : Letter
free_far = about_arm (switch_box 0) Release (arm 0)

-- the first four steps: J1 grants the near end of B
abbrev pub four_steps : List Step
four_steps = say_yes 1 0 near ∷ grant 1 0 near ∷ take 1 0 near ∷ post 0 near ∷ []

-- the whole step of the route
abbrev pub whole_step : List Step
whole_step =
    granted 0 free_far (release 0 0 free_far)
    ++ granted 1 free_near (release 1 0 free_near)
    ++ granted 1 give_back (unlock 1 0 give_back Left)
    ++ quiet 0 ∷ tail 0 0 ∷ leave 0 0 ∷ head 0 0 ∷ enter 0 0 ∷ go 0
    ∷ granted 1 lock (lock_now 1 0 lock Left)
    ++ granted 2 far (grant 2 0 far)
    ++ granted 1 near (grant 1 0 near)
