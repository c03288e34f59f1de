-- The numbers of a written form are within the limits of the table.
use Rattle.std.proofs.Common.{◌≡◌, ◌&&◌, ℕ, Bool, true, false, cond, Option, Some, None, IfSome, Result, Ok, Err, IfOk, inl, inr, refl, sym, subst, true≢false, nat_le, arith, unwrap_or}
use Rattle.std.specs.Prelude.{is_some, option_and_then, option_map, List, [], ◌∷◌}
use Rattle.std.proofs.lemmas.Bool.Decides.{nat_tests}
use Rattle.rl_base.specs.declared.limits.TheConstants.{MAX_ROUNDS, MIN_TRIES, MAX_TRIES, DEFAULT_TRIES, MAX_WORKERS, MIN_ROUND, MAX_ROUND, DEFAULT_ROUND, MAX_MAKE}
use Rattle.rl_text.specs.Number.{number_of}
use Rattle.rl_cli.specs.Words.{Text, fits, number, within}
use Rattle.rl_cli.specs.Table.{check, tables, rounds, drive, run, audit, make, rounds_asked, stations_asked}
use Rattle.rl_cli.specs.Written.{IsWritten, IsWrittenAs}
use Rattle.rl_cli.specs.Limits.{IsFrom, IsWithinLimits}
use Rattle.rl_cli.specs.declared.item.Item.TheVariants.{File, Number}
use Rattle.rl_cli.specs.declared.flag.Flag.TheVariants.{Schedule, Tries, Workers, Round}
use Rattle.rl_cli.specs.declared.order.Order.{Order}
use Rattle.rl_cli.specs.declared.fault.CliFault.{CliFault}
use Rattle.rl_cli.proofs.Numbers.{values_fit, first_fits, second_fits}

number_from : (least most : ℕ) (word : Text) → fits (Number least most) word ≡ true → IsFrom least most (number word)
number_from least most word e = go (number_of word) e
  where
    go : (o : Option ℕ) → is_some (option_and_then (within least most) o) ≡ true → IsFrom least most (unwrap_or o 0)
    go None e = absurd (true≢false (sym e))
    go (Some n) e = in_range n (nat_le least n) (nat_le n most) refl refl e
      where
        in_range : (n : ℕ) (low high : Bool) → low ≡ nat_le least n → high ≡ nat_le n most → is_some (cond (low && high) (Some n) None) ≡ true
            → IsFrom least most n
        in_range n true true above below e = record { low = grind (arith, nat_tests); high = grind (arith, nat_tests) }
        in_range n true false above below e = absurd (true≢false (sym e))
        in_range n false high above below e = absurd (true≢false (sym e))

-- the number of an option, or the usual one
number_or : (least most usual : ℕ) (o : Option Text) → IsFrom least most usual → IfSome o (λ w. fits (Number least most) w ≡ true)
    → IsFrom least most (unwrap_or (option_map number o) usual)
number_or least most usual None in_range fit = in_range
number_or least most usual (Some w) in_range fit = number_from least most w fit

number_if : (least most : ℕ) (o : Option Text) → IfSome o (λ w. fits (Number least most) w ≡ true) → IfSome (option_map number o) (IsFrom least most)
number_if least most None fit = tt
number_if least most (Some w) fit = number_from least most w fit

as_given : (o found : Order) → o ≡ found → IsWithinLimits found → IsWithinLimits o
as_given o found is h = subst (λ (x : Order). IsWithinLimits x) (sym is) h

of_rounds : (words : List Text) (o : Order) → IsWrittenAs rounds words o → IsWithinLimits o
of_rounds words o w =
    as_given o (rounds.order w.given) w.gives (
      (number_from 0 MAX_ROUNDS _ (second_fits File rounds_asked w.given.positionals w.asked.positionals)).high,
      number_or MIN_TRIES MAX_TRIES DEFAULT_TRIES _ (record { low = omega arith; high = omega arith }) (values_fit (Tries ∷ []) Tries w.given.options w.asked.options),
    )

of_drive : (words : List Text) (o : Order) → IsWrittenAs drive words o → IsWithinLimits o
of_drive words o w =
    as_given o (drive.order w.given) w.gives
    (number_or MIN_TRIES MAX_TRIES DEFAULT_TRIES _ (record { low = omega arith; high = omega arith }) (values_fit (Schedule ∷ Tries ∷ []) Tries w.given.options w.asked.options))

of_run : (words : List Text) (o : Order) → IsWrittenAs run words o → IsWithinLimits o
of_run words o w =
    let flags = Tries ∷ Workers ∷ Round ∷ [] in
    as_given o (run.order w.given) w.gives (
      number_or MIN_TRIES MAX_TRIES DEFAULT_TRIES _ (record { low = omega arith; high = omega arith }) (values_fit flags Tries w.given.options w.asked.options),
      number_if 1 MAX_WORKERS _ (values_fit flags Workers w.given.options w.asked.options),
      number_or MIN_ROUND MAX_ROUND DEFAULT_ROUND _ (record { low = omega arith; high = omega arith }) (values_fit flags Round w.given.options w.asked.options),
    )

of_make : (words : List Text) (o : Order) → IsWrittenAs make words o → IsWithinLimits o
of_make words o w =
    as_given o (make.order w.given) w.gives (number_from 1 MAX_MAKE _ (first_fits stations_asked w.given.positionals w.asked.positionals))

within_limits : (words : List Text) (o : Order) → IsWritten words o → IsWithinLimits o
unfolding IsWritten
within_limits words o written = elim written [
  | inl w ↦ as_given o (check.order w.given) w.gives tt
  | inr w ↦ elim w [
    | inl w ↦ as_given o (tables.order w.given) w.gives tt
    | inr w ↦ elim w [
      | inl w ↦ of_rounds words o w
      | inr w ↦ elim w [
        | inl w ↦ of_drive words o w
        | inr w ↦ elim w [
          | inl w ↦ of_run words o w
          | inr w ↦ elim w [
            | inl w ↦ as_given o (audit.order w.given) w.gives tt
            | inr w ↦ elim w [ inl w ↦ of_make words o w | inr w ↦ absurd w ]
          ]
        ]
      ]
    ]
  ]
]

-- the order of a parse is within the limits
pub answers_within : (r : Result Order CliFault) (words : List Text) → IfOk r (IsWritten words) → IfOk r IsWithinLimits
answers_within (Ok o) words written = within_limits words o written
answers_within (Err fault) words written = tt
