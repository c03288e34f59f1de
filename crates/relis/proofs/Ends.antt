-- From what was read to how an order ends.
use Rattle.std.proofs.Common.{◌≡◌, ◌<◌, ℕ, suc, List, [], ◌∷◌, Option, Some, None, IfSome, Result, Ok, Err, IfErr, IsErrAnd, inl, inr, refl, sym, subst, arith, length, replicate}
use Rattle.std.proofs.lemmas.List.{length-replicate}
use Rattle.rl_base.specs.declared.limits.TheConstants.{MAX_NETWORK_BYTES}
use Rattle.rl_base.specs.declared.place.Place.{Place}
use Rattle.rl_base.specs.declared.place.Place.TheVariants as place
use Rattle.rl_syntax.specs.declared.refusal.SyntaxRefusal.TheVariants.{TooLong}
use Rattle.rl_model.specs.declared.network.NetworkPlan.{NetworkPlan}
use Rattle.rl_cli.specs.declared.order.Order.{Order}
use Rattle.rl_cli.specs.declared.order.Order.TheVariants.{Check, Tables, Rounds, Drive, Run, Audit, Make}
use Rattle.relis.specs.Answers.{Held, Counts, Tells, AreTold, NoneRose, OneRose, HoldsNetwork, HoldsRefused, CouldNotRead, EndsAs, UnlessMemory}
use Rattle.relis.specs.Reading.{FetchesOf, WasRead, WasNotRead, WasAccepted, WasNotAccepted}
use Rattle.relis.specs.Commands.{End, IsWork, IsWorkAlone, IsWorkOn, IsWorkOnText, refused, accepted}
use Rattle.relis.specs.Networks.{IsRefusedAs, unread as unread_text}
use Rattle.relis.specs.Orders.{files_of}
use Rattle.relis.specs.declared.status.Status.{Status}
use Rattle.relis.specs.declared.status.Status.TheVariants as status
use Rattle.relis.proofs.Fetches.{contains_first, none_rose-trans, some_contents, tells_before}

-- no work on what was read ends with a read fault
no_read_fault_on : (order : Order) (net : NetworkPlan) (others : List (List ℕ)) → IsWorkOn order net others (Err status.ReadFault) → ⊥
no_read_fault_on (Check name) net others work = work
no_read_fault_on (Tables name) net others work = work
no_read_fault_on (Rounds name rounds tries) net others work = work
no_read_fault_on (Drive name schedule tries) net [] work = work
no_read_fault_on (Drive name schedule tries) net (bytes ∷ others) work = work
no_read_fault_on (Run name tries workers round) net others work = work
no_read_fault_on (Audit name report) net [] work = work
no_read_fault_on (Audit name report) net (bytes ∷ others) work = work
no_read_fault_on (Make n) net others work = work

no_read_fault_alone : (order : Order) → IsWorkAlone order (Err status.ReadFault) → ⊥
no_read_fault_alone (Check name) work = work
no_read_fault_alone (Tables name) work = work
no_read_fault_alone (Rounds name rounds tries) work = work
no_read_fault_alone (Drive name schedule tries) work = work
no_read_fault_alone (Run name tries workers round) work = work
no_read_fault_alone (Audit name report) work = work
no_read_fault_alone (Make n) work = work

no_read_fault : (order : Order) (contents : List (List ℕ)) (end : End) → end ≡ Err status.ReadFault → IsWork order contents end → ⊥
no_read_fault order [] end is work = no_read_fault_alone order (subst (λ (x : End). IsWorkAlone order x) is work)
no_read_fault order (bytes ∷ others) end is (refused n p h) = absurd (cc)
no_read_fault order (bytes ∷ others) end is (accepted net e h work) =
    no_read_fault_on order net others (subst (λ (x : End). IsWorkOn order net others x) is work)

-- the work on what the files tell
pub carried : (order : Order) (held : Held) (before now : Counts) (contents : List (List ℕ)) (end : End) → NoneRose before now →
    AreTold held (files_of order) contents → IsWork order contents end → EndsAs order held before now end
carried order held before now contents (Ok text) none told work = (none, record { contents = contents; told = told; work = work })
carried order held before now contents (Err status.Done) none told work = (none, record { contents = contents; told = told; work = work })
carried order held before now contents (Err status.Usage) none told work = (none, record { contents = contents; told = told; work = work })
carried order held before now contents (Err status.ReadFault) none told work =
    absurd (no_read_fault order contents (Err status.ReadFault) refl work)
carried order held before now contents (Err (status.Refused n p)) none told work = (none, record { contents = contents; told = told; work = work })
carried order held before now contents (Err status.WriteFault) none told work = (none, record { contents = contents; told = told; work = work })
carried order held before now contents (Err status.NoMemory) none told work = (none, record { contents = contents; told = told; work = work })
carried order held before now contents (Err (status.NotSafe line guard)) none told work =
    (none, record { contents = contents; told = told; work = work })

told_as : (held : Held) (names files contents : List (List ℕ)) → files ≡ names → AreTold held names contents → AreTold held files contents
told_as held names files contents is told = subst (λ (x : List (List ℕ)). AreTold held x contents) (sym is) told

-- an order whose network wasn't accepted
pub stopped : (order : Order) (name : List ℕ) (others : List (List ℕ)) (held : Held) (before now : Counts) (answer : Status) →
    files_of order ≡ name ∷ others → WasNotAccepted held before now name answer → UnlessMemory (EndsAs order held before now) (Err answer)
stopped order name others held before now status.ReadFault files why =
    subst (λ (x : List (List ℕ)). CouldNotRead held before now x) (sym files) (inl why)
stopped order name others held before now status.NoMemory files why = tt
stopped order name others held before now (status.Refused n p) files why =
    let rest = some_contents held others in
    carried order held before now (why.1.bytes ∷ rest.0) (Err (status.Refused n p)) why.0
    (told_as held (name ∷ others) (files_of order) (why.1.bytes ∷ rest.0) files (why.1.told, rest.1)) (refused n p why.1.refused)
stopped order name others held before now status.Done files why = absurd why
stopped order name others held before now status.Usage files why = absurd why
stopped order name others held before now status.WriteFault files why = absurd why
stopped order name others held before now (status.NotSafe line guard) files why = absurd why

-- the work of an order that names one file
pub alone : (order : Order) (name : List ℕ) (held : Held) (before now : Counts) (net : NetworkPlan) (end : End) → files_of order ≡ name ∷ [] →
    WasAccepted held before now name net → IsWorkOn order net [] end → EndsAs order held before now end
alone order name held before now net end files read work =
    carried order held before now (read.holds.bytes ∷ []) end read.none
    (told_as held (name ∷ []) (files_of order) (read.holds.bytes ∷ []) files (read.holds.told, tt)) (accepted net end read.holds.accepted work)

-- what one fact of an end gives for the other, memory aside
pub unless_memory : (P Q : End → Type 0) (end : End) → ((e : End) → P e → Q e) → UnlessMemory P end → UnlessMemory Q end
unless_memory P Q (Ok text) f h = f (Ok text) h
unless_memory P Q (Err status.Done) f h = f (Err status.Done) h
unless_memory P Q (Err status.Usage) f h = f (Err status.Usage) h
unless_memory P Q (Err status.ReadFault) f h = f (Err status.ReadFault) h
unless_memory P Q (Err (status.Refused n p)) f h = f (Err (status.Refused n p)) h
unless_memory P Q (Err status.WriteFault) f h = f (Err status.WriteFault) h
unless_memory P Q (Err status.NoMemory) f h = tt
unless_memory P Q (Err (status.NotSafe line guard)) f h = f (Err (status.NotSafe line guard)) h

-- a network was accepted, and then only one other file was fetched
pub record WasFollowed (held after : Held) (x y : Counts) (first : List ℕ) (net : NetworkPlan) : Type 0 where
  pub read : WasAccepted held x y first net
  pub fetches : FetchesOf (first ∷ []) held after x y

-- the work of an order that names two
pub both : (order : Order) (first second : List ℕ) (held after : Held) (x y z : Counts) (net : NetworkPlan) (bytes : List ℕ) (W : End → Type 0)
    (end : End) → files_of order ≡ first ∷ second ∷ [] → WasFollowed held after x y first net → WasRead after y z second bytes →
    ((e : End) → W e → IsWorkOn order net (bytes ∷ []) e) → UnlessMemory W end → UnlessMemory (EndsAs order held x z) end
both order first second held after x y z net bytes W end files followed read is_work work =
    unless_memory W (EndsAs order held x z) end
    (λ e w.
    carried order held x z (followed.read.holds.bytes ∷ bytes ∷ []) e (none_rose-trans x y z followed.read.none read.none)
    (told_as held (first ∷ second ∷ []) (files_of order) (followed.read.holds.bytes ∷ bytes ∷ []) files (
      followed.read.holds.told,
      (tells_before held after second bytes (followed.fetches.stay second) read.told, tt),
    ))
    (accepted net e followed.read.holds.accepted (is_work e w)))
    work

-- there is a text that is longer than a limit and that is told, if the told one is
long_text : (told : Option (List ℕ)) (limit : ℕ) → IfSome told (λ there. limit < length there) →
    (bytes : List ℕ) × IfSome told (λ there. bytes ≡ there) × (limit < length bytes)
long_text None limit long = (replicate (suc limit) 0, tt, omega (arith, length-replicate {A = ℕ} (suc limit) 0))
long_text (Some there) limit long = (there, refl, long)

-- the text of a network that is too long is refused as such, also where its bytes aren't told
pub too_long : (held : Held) (name : List ℕ) (limit : ℕ) (P : List ℕ → Type 0) →
    ((bytes : List ℕ) → limit < length bytes → P bytes) → IfSome (held name) (λ there. limit < length there) →
    (bytes : List ℕ) × Tells held name bytes × P bytes
too_long held name limit P refuses long =
    let text = long_text (held name) limit long in
    (text.0, text.1, refuses text.0 text.2)

-- an order whose second file wasn't read
pub unread : (order : Order) (first second : List ℕ) (held after : Held) (x y z : Counts) (net : NetworkPlan) (limit n : ℕ) (p : Place)
    (answer : Status) → files_of order ≡ first ∷ second ∷ [] → WasFollowed held after x y first net →
    WasNotRead after y z second limit n p answer →
    ((bytes : List ℕ) → limit < length bytes → IsWorkOn order net (bytes ∷ []) (Err (status.Refused n p))) →
    UnlessMemory (EndsAs order held x z) (Err answer)
unread order first second held after x y z net limit n p status.ReadFault files followed why refuses =
    let rose : y second < z second = why in
    let same : y second ≡ x second = followed.read.none second in
    subst (λ (names : List (List ℕ)). CouldNotRead held x z names) (sym files)
    (inr ((net, followed.read.holds), (second, contains_first second [], omega arith)))
unread order first second held after x y z net limit n p status.NoMemory files followed why refuses = tt
unread order first second held after x y z net limit n p (status.Refused m q) files followed why refuses =
    let text = too_long after second limit (λ bytes. IsWorkOn order net (bytes ∷ []) (Err (status.Refused n p))) refuses why.2 in
    subst (λ (s : Status). UnlessMemory (EndsAs order held x z) (Err s)) (sym why.0)
    (carried order held x z (followed.read.holds.bytes ∷ text.0 ∷ []) (Err (status.Refused n p)) (none_rose-trans x y z followed.read.none why.1)
    (told_as held (first ∷ second ∷ []) (files_of order) (followed.read.holds.bytes ∷ text.0 ∷ []) files (
      followed.read.holds.told,
      (tells_before held after second text.0 (followed.fetches.stay second) text.1, tt),
    ))
    (accepted net (Err (status.Refused n p)) followed.read.holds.accepted text.2))
unread order first second held after x y z net limit n p status.Done files followed why refuses =
    absurd (let is = why.0 in cc)
unread order first second held after x y z net limit n p status.Usage files followed why refuses =
    absurd (let is = why.0 in cc)
unread order first second held after x y z net limit n p status.WriteFault files followed why refuses =
    absurd (let is = why.0 in cc)
unread order first second held after x y z net limit n p (status.NotSafe line guard) files followed why refuses =
    absurd (let is = why.0 in cc)

-- a network text that wasn't read is not accepted: one that is too long is refused as such
pub not_accepted : (held : Held) (before now : Counts) (name : List ℕ) (answer : Status) →
    WasNotRead held before now name MAX_NETWORK_BYTES 1 place.None answer → WasNotAccepted held before now name answer
not_accepted held before now name status.ReadFault why = why
not_accepted held before now name status.NoMemory why = tt
not_accepted held before now name (status.Refused n p) why =
    let text = too_long held name MAX_NETWORK_BYTES (λ bytes. IsRefusedAs bytes 1 place.None) (λ bytes long. unread_text TooLong long) why.2 in
    subst (λ (s : Status). WasNotAccepted held before now name s) (sym why.0)
    (why.1, record { bytes = text.0; told = text.1; refused = text.2 })
not_accepted held before now name status.Done why = absurd (let is = why.0 in cc)
not_accepted held before now name status.Usage why = absurd (let is = why.0 in cc)
not_accepted held before now name status.WriteFault why = absurd (let is = why.0 in cc)
not_accepted held before now name (status.NotSafe line guard) why = absurd (let is = why.0 in cc)

-- an error that `?` passes on is the one that was given
pub passed : {A : Type 0} (P : Status → Type 0) (r : Result A Status) (answer : Status) → IsErrAnd r (λ other. other ≡ answer) → P answer → IfErr r P
passed P (Ok found) answer is h = absurd is
passed P (Err other) answer is h = subst P (sym is) h

pub passed_end : (P : End → Type 0) (end : End) (answer : Status) → IsErrAnd end (λ other. other ≡ answer) → UnlessMemory P (Err answer) →
    UnlessMemory P end
passed_end P (Ok text) answer is h = absurd is
passed_end P (Err other) answer is h = subst (λ (s : Status). UnlessMemory P (Err s)) (sym is) h
