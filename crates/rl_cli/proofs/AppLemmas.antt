-- A simple command grows by one argument at its end.
use Rattle.std.proofs.Common.{◌≡◌, ◌<◌, ◌+◌, ◌++◌, ◌∷◌, [], ℕ, List, length, map, take, get_or, ap, sym, ◌∙◌, append-nil, append_assoc}
use Rattle.std.proofs.lemmas.List.{take_more, map-append}
use Rattle.std.specs.Borrow.{Bor}
use Rattle.clap.specs.Walk.{Rule}
use Rattle.clap.specs.Simple.{App, new_rule, with_rule}
use Rattle.rl_cli.specs.Words.{Text}
use Rattle.rl_cli.specs.Apps.{rule_for, app_with}
use Rattle.rl_cli.specs.declared.flag.Flag.{Flag}

abbrev with_rules : List Rule → App
with_rules rules = let a = app_with [] [] in record a { top = record a.top { rules = rules } }

pub one_more_positional : (ids : List (Bor Text)) (i : ℕ) (d : Bor Text) → i < length ids
    → with_rule (app_with (map (λ s. s.now) (take i ids)) []) (new_rule (get_or ids i d).now) ≡ app_with (map (λ s. s.now) (take (i + 1) ids)) []
one_more_positional ids i d lt =
    let now : Bor Text → Text = λ s. s.now in
    let more : map new_rule (map now (take (i + 1) ids)) ≡ map new_rule (map now (take i ids)) ++ new_rule (get_or ids i d).now ∷ [] =
    ap (λ xs. map new_rule (map now xs)) (take_more ids i d lt) ∙ simp map-append in
    ap with_rules (ap (λ xs. xs ++ new_rule (get_or ids i d).now ∷ []) (append-nil _) ∙ sym more ∙ sym (append-nil _))

pub one_more_option : (ids : List Text) (flags : List Flag) (i : ℕ) (d : Flag) → i < length flags
    → with_rule (app_with ids (take i flags)) (rule_for (get_or flags i d)) ≡ app_with ids (take (i + 1) flags)
one_more_option ids flags i d lt =
    let more : map rule_for (take (i + 1) flags) ≡ map rule_for (take i flags) ++ rule_for (get_or flags i d) ∷ [] =
    ap (map rule_for) (take_more flags i d lt) ∙ map-append rule_for (take i flags) (get_or flags i d ∷ []) in
    ap with_rules (append_assoc (map new_rule ids) (map rule_for (take i flags)) (rule_for (get_or flags i d) ∷ [])
    ∙ ap (λ xs. map new_rule ids ++ xs) (sym more))
