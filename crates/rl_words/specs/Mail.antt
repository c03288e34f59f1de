-- The mail word of a train: what fits it, its bits, and its packing.
use Rattle.std.specs.Prelude.{◌≡◌, ◌≢◌, ℕ, ◌+◌, ◌*◌, ◌^◌, ◌<◌, ◌==◌, Bool, ◌&&◌}
use Rattle.rl_base.specs.declared.ids.Arm.{Arm}
use Rattle.rl_base.specs.declared.ids.BoxId.{BoxId}
use Rattle.rl_base.specs.declared.limits.TheConstants.{MAX_BOXES, MAX_TRAINS}
use Rattle.rl_base.specs.declared.job.Verb.{Verb}
use Rattle.rl_base.specs.declared.job.Verb.TheVariants.{Reserve, Release, Lock, Unlock}
use Rattle.rl_words.specs.declared.mail.Letter.{Letter}
use Rattle.rl_words.specs.declared.mail.MailWord.{MailWord}
use Rattle.rl_words.specs.declared.mail.MailWord.TheVariants.{Empty, Ask, Taken, Yes, No}

-- who reserves or releases names one arm, and y is 0; who locks or unlocks names two
abbrev pub FitsArms : Verb → ℕ → ℕ → Type 0
FitsArms Reserve x y = y ≡ 0
FitsArms Release x y = y ≡ 0
FitsArms Lock x y = x ≢ y
FitsArms Unlock x y = x ≢ y

-- to a box of a network within its limits, with the arms of its verb
pub record FitsLetter (l : Letter) : Type 0 where
  pub to : l.to.0 < MAX_BOXES
  pub x : l.x.0 < 4
  pub y : l.y.0 < 4
  pub arms : FitsArms l.verb l.x.0 l.y.0

-- only a reservation and a lock are ever refused
abbrev pub IsRefusable : Verb → Type 0
IsRefusable Reserve = Unit {0}
IsRefusable Release = ⊥
IsRefusable Lock = Unit {0}
IsRefusable Unlock = ⊥

abbrev pub FitsMail : MailWord → Type 0
FitsMail Empty = Unit {0}
FitsMail (Ask l) = FitsLetter l
FitsMail (Taken l) = FitsLetter l
FitsMail (Yes l) = FitsLetter l
FitsMail (No l holder) = FitsLetter l × IsRefusable l.verb × (holder.0 < MAX_TRAINS)

-- the number of each verb
abbrev pub verb_code : Verb → ℕ
verb_code Reserve = 0
verb_code Release = 1
verb_code Lock = 2
verb_code Unlock = 3

-- the box in bits 3 to 9, the verb in bits 10 and 11, the arms in bits 12 and 13 and in bits 14 and 15
abbrev pub packed_letter : Letter → ℕ
packed_letter l = l.to.0 * 2 ^ 3 + verb_code l.verb * 2 ^ 10 + l.x.0 * 2 ^ 12 + l.y.0 * 2 ^ 14

-- the tag in bits 0 to 2, and then the letter, and the holder in bits 16 to 20
abbrev pub packed_mail : MailWord → ℕ
packed_mail Empty = 0
packed_mail (Ask l) = 1 + packed_letter l
packed_mail (Taken l) = 2 + packed_letter l
packed_mail (Yes l) = 3 + packed_letter l
packed_mail (No l holder) = 4 + packed_letter l + holder.0 * 2 ^ 16

-- the two letters are one
abbrev pub same_letter : Letter → Letter → Bool
same_letter a b = a.to.0 == b.to.0 && (verb_code a.verb == verb_code b.verb && (a.x.0 == b.x.0 && a.y.0 == b.y.0))

-- a letter about one arm of a box
abbrev pub about_arm : BoxId → Verb → Arm → Letter
about_arm b verb x = record { to = b; verb = verb; x = x; y = record { 0 = 0 } }

-- a letter about the passage from one arm of a box to another
abbrev pub about_passage : BoxId → Verb → Arm → Arm → Letter
about_passage b verb x y = record { to = b; verb = verb; x = x; y = y }
