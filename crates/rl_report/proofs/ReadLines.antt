-- The words of a move's line, and of a train's.
use Rattle.std.proofs.Common.{◌≡◌, ℕ, ◌<◌, length, codes, List, [], ◌∷◌, ◌++◌, sym, ap, ◌∙◌, refl, get_or, slice_get, Option, Some, None, decimal, arith}
use Rattle.std.specs.List.{join_with_byte}
use Rattle.std.proofs.lemmas.List.{append_cancel_right}
use Rattle.rl_base.specs.Tries.{AreFewTries}
use Rattle.rl_text.specs.Words.{words_of}
use Rattle.rl_model.specs.declared.moves.Move.{Move}
use Rattle.rl_model.specs.declared.network.NetworkPlan.{NetworkPlan}
use Rattle.rl_model.specs.declared.report.Outcome.{Outcome}
use Rattle.rl_model.specs.Moves.{IsMoveOf}
use Rattle.rl_model.specs.declared.network.Train.{Train}
use Rattle.rl_model.specs.Network.{IsNetwork, train_name}
use Rattle.rl_report.proofs.Within.{none_within}
use Rattle.rl_model.specs.ReportText.{line_of, move_words}
use Rattle.rl_report.specs.Words.{IsCount, outcome_words}
use Rattle.rl_report.specs.Grammar.{IsMoveLine, IsOutcomeLine}
use Rattle.rl_report.proofs.NamedMoves.{named}
use Rattle.rl_report.proofs.Plain.{plain_move, plain_outcome, plain_decimal, small_count}
use Rattle.rl_report.proofs.Joined.{words_of-joined, joined-words_of}

-- the line of some words, where they are the words of the text
line_from_words : (text : List ℕ) (words : List (List ℕ)) → words_of text ≡ words → text ++ 10 ∷ [] ≡ line_of words
line_from_words text words e = ap (λ line. line ++ 10 ∷ []) (sym (joined-words_of text) ∙ ap (join_with_byte 32) e)

pub move_line_from_words : (net : NetworkPlan) (text : List ℕ) (m : Move) → IsMoveOf net m → words_of text ≡ move_words net m → IsMoveLine net text m
move_line_from_words net text m of e = record { of = of; line = line_from_words text (move_words net m) e }

-- a move has a word, so its words are those of its line
pub words_of_move : (net : NetworkPlan) (m : Move) → IsNetwork net → words_of (join_with_byte 32 (move_words net m)) ≡ move_words net m
words_of_move net m network =
    let is = named net m in
    let plain = plain_move net m network in
    let words = is.words in
    rw words (words_of-joined _ is.others (rw words at plain))

pub words_from_move_line : (net : NetworkPlan) (text : List ℕ) (m : Move) → IsNetwork net → IsMoveLine net text m → words_of text ≡ move_words net m
words_from_move_line net text m network is =
    ap words_of (append_cancel_right text (join_with_byte 32 (move_words net m)) (10 ∷ []) is.line) ∙ words_of_move net m network

pub outcome_line_from_words : (net : NetworkPlan) (text : List ℕ) (t : ℕ) (o : Outcome) → t < length net.trains → IsCount o.made → IsCount o.refused
    → words_of text ≡ outcome_words net t o → IsOutcomeLine net text t o
outcome_line_from_words net text t o train made refused e =
    record { train = train; made = made; refused = refused; line = line_from_words text (outcome_words net t o) e }

pub words_from_outcome_line : (net : NetworkPlan) (text : List ℕ) (t : ℕ) (o : Outcome) → IsNetwork net → IsOutcomeLine net text t o
    → words_of text ≡ outcome_words net t o
words_from_outcome_line net text t o network is =
    let plain = plain_outcome net t o network (small_count o.made is.made) (small_count o.refused is.refused) in
    ap words_of (append_cancel_right text (join_with_byte 32 (outcome_words net t o)) (10 ∷ []) is.line) ∙ words_of-joined _ _ plain

-- a number behind its word is cut from it again
pub tries_words : (n : ℕ) → AreFewTries n → words_of (join_with_byte 32 (codes "tries" ∷ decimal n ∷ [])) ≡ codes "tries" ∷ decimal n ∷ []
tries_words n h = words_of-joined (codes "tries") (decimal n ∷ []) (rw (plain_decimal n (omega arith)) refl)

-- trains of one name are one train
pub same_train : (net : NetworkPlan) (t u : ℕ) → IsNetwork net → t < length net.trains → u < length net.trains → train_name net t ≡ train_name net u → t ≡ u
same_train net t u network t_in u_in e = from (slice_get net.trains t) (slice_get net.trains u) refl refl
  where
    from : (o p : Option Train) → slice_get net.trains t ≡ o → slice_get net.trains u ≡ p → t ≡ u
    from None p is is2 = absurd (none_within net.trains t t_in is)
    from (Some r) None is is2 = absurd (none_within net.trains u u_in is2)
    from (Some r) (Some q) is is2 =
        let first : train_name net t ≡ r.name = rw is refl in
        let other : train_name net u ≡ q.name = rw is2 refl in
        network.train_names t u r q is is2 (sym first ∙ e ∙ other)

-- a train's line is no other's
pub one_train : (net : NetworkPlan) (text : List ℕ) (t u : ℕ) (o p : Outcome) → IsNetwork net → IsOutcomeLine net text t o → IsOutcomeLine net text u p → t ≡ u
one_train net text t u o p network is is2 =
    let words : outcome_words net t o ≡ outcome_words net u p =
    sym (words_from_outcome_line net text t o network is) ∙ words_from_outcome_line net text u p network is2 in
    same_train net t u network is.train is2.train (ap (λ ws. get_or ws 1 []) words)
