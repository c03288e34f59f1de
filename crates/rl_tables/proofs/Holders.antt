-- The train that starts on a segment is one of the line's, and by its network the one that starts there.
use Rattle.std.proofs.Common.{◌≡◌, ℕ, zero, suc, ◌<◌, ◌≤◌, Bool, true, List, [], ◌∷◌, length, slice_get, Option, Some, None, refl, sym, ap, ◌∙◌, subst, arith}
use Rattle.std.specs.Prelude.{◌==◌, ◌↔◌, is_some, find, option_map, IfSome}
use Rattle.std.proofs.lemmas.Bool.{cond_both, eqb-true, eq-eqb, false≢true}
use Rattle.std.proofs.lemmas.Option.{same_Some, option_and_then_some, slice_get_within}
use Rattle.rl_base.specs.declared.limits.TheConstants.{MAX_TRAINS}
use Rattle.rl_base.specs.declared.ids.TrainId.{TrainId}
use Rattle.rl_base.specs.declared.ids.SegId.{SegId}
use Rattle.rl_model.specs.declared.network.Train.{Train}
use Rattle.rl_model.specs.declared.network.NetworkPlan.{NetworkPlan}
use Rattle.rl_model.specs.Network.{StartsOn, IsNetwork}
use Rattle.rl_words.specs.Resv.{FitsArm}
use Rattle.rl_tables.specs.declared.table.TrainTable.{TrainTable}
use Rattle.rl_tables.specs.declared.table.Tables.{Tables}
use Rattle.rl_tables.specs.Kept.{IsLine}
use Rattle.rl_tables.specs.Tables.{AreTablesOf}
use Rattle.rl_tables.specs.Starts.{starter_of}
use Rattle.rl_tables.proofs.ListsOf.{there}

-- what is found is an item of the list that passes
found : {A : Type 0} (p : A → Bool) (xs : List A) (P : A → Type 0) → ((k : ℕ) (x : A) → slice_get xs k ≡ Some x → p x ≡ true → P x) → IfSome (find p xs) P
found p [] P each = tt
found p (x ∷ xs) P each = cond_both (p x) (Some x) (find p xs) (λ o. IfSome o P) (λ e. each 0 x refl e) (λ e. found p xs P (λ k. each (suc k)))

-- and one is found where one passes
some_found : {A : Type 0} (p : A → Bool) (xs : List A) (k : ℕ) (x : A) → slice_get xs k ≡ Some x → p x ≡ true → is_some (find p xs) ≡ true
some_found p [] k x at pass = absurd (cc)
some_found p (y ∷ ys) zero x at pass = let same : y ≡ x = cc in rw same (rw pass refl)
some_found p (y ∷ ys) (suc k) x at pass = cond_both (p y) (Some y) (find p ys) (λ o. is_some o ≡ true) (λ e. refl) (λ e. some_found p ys k x at pass)

mapped : {A B : Type 0} (f : A → B) (o : Option A) (P : B → Type 0) → IfSome o (λ x. P (f x)) → IfSome (option_map f o) P
mapped f None P h = tt
mapped f (Some x) P h = h

pub holder_there : (tables : Tables) (s : ℕ) → IsLine tables → IfSome (starter_of tables s) (λ t. t.0 < length tables.trains)
holder_there tables s line =
    mapped (λ (x : TrainTable). x.number) (find (λ (x : TrainTable). x.first.0 == s) tables.trains) (λ (t : TrainId). t.0 < length tables.trains)
    (found (λ (x : TrainTable). x.first.0 == s) tables.trains (λ x. x.number.0 < length tables.trains)
    (λ k x at pass. let within = slice_get_within tables.trains k x at in let number = (line.trains k x at).number in omega arith))

fits : (o : Option TrainId) (n : ℕ) → n ≤ MAX_TRAINS → IfSome o (λ t. t.0 < n) → FitsArm o
fits None n few h = tt
fits (Some t) n few h = omega arith

pub holder_fits : (tables : Tables) (s : ℕ) → IsLine tables → FitsArm (starter_of tables s)
holder_fits tables s line = fits (starter_of tables s) (length tables.trains) line.few_trains (holder_there tables s line)

-- the train that starts on s, by the network
starter_is : (net : NetworkPlan) (tables : Tables) (s : ℕ) → AreTablesOf net tables → IfSome (starter_of tables s) (λ t. StartsOn net t.0 s)
starter_is net tables s are =
    mapped (λ (x : TrainTable). x.number) (find (λ (x : TrainTable). x.first.0 == s) tables.trains) (λ (t : TrainId). StartsOn net t.0 s)
    (found (λ (x : TrainTable). x.first.0 == s) tables.trains (λ x. StartsOn net x.number.0 s)
    (λ k x at pass.
    let is = are.trains.each k x at in
    subst (λ n. StartsOn net n s) (sym is.number) (subst (StartsOn net k) (eqb-true x.first.0 s pass) is.first)))

-- a train that starts somewhere is there
start_there : (net : NetworkPlan) (t s : ℕ) → StartsOn net t s → t < length net.trains
start_there net t s starts =
    option_and_then_some (λ (r : Train). option_map (λ (g : SegId). g.0) (slice_get r.segments 0)) (slice_get net.trains t) s starts
    (λ r found at. slice_get_within net.trains t r found)

some_mapped : {A B : Type 0} (f : A → B) (o : Option A) → is_some o ≡ true → is_some (option_map f o) ≡ true
some_mapped f None h = absurd (false≢true h)
some_mapped f (Some x) h = refl

starter_found : (net : NetworkPlan) (tables : Tables) (t s : ℕ) → AreTablesOf net tables → StartsOn net t s → is_some (starter_of tables s) ≡ true
starter_found net tables t s are starts =
    let inside = start_there net t s starts in
    let count = are.trains.length_is in
    let item = there tables.trains t (omega arith) in
    let first = same_Some item.0.first.0 s (sym (are.trains.each t item.0 item.1).first ∙ starts) in
    some_mapped (λ (x : TrainTable). x.number) (find (λ (x : TrainTable). x.first.0 == s) tables.trains)
    (some_found (λ (x : TrainTable). x.first.0 == s) tables.trains t item.0 item.1 (eq-eqb item.0.first.0 s first))

pub holder_is : (net : NetworkPlan) (tables : Tables) (t s : ℕ) → IsNetwork net → AreTablesOf net tables
    → (option_map (λ (u : TrainId). u.0) (starter_of tables s) ≡ Some t) ↔ StartsOn net t s
holder_is net tables t s network are = (
  from (starter_of tables s) (starter_is net tables s are),
  λ starts. to (starter_of tables s) (starter_is net tables s are) starts
      (starter_found net tables t s are starts),
)
  where
    from : (o : Option TrainId) → IfSome o (λ u. StartsOn net u.0 s) → option_map (λ (u : TrainId). u.0) o ≡ Some t → StartsOn net t s
    from None h e = absurd (cc)
    from (Some u) h e = let same : u.0 ≡ t = cc in subst (λ n. StartsOn net n s) same h

    to : (o : Option TrainId) → IfSome o (λ u. StartsOn net u.0 s) → StartsOn net t s → is_some o ≡ true → option_map (λ (u : TrainId). u.0) o ≡ Some t
    to None h starts some = absurd (false≢true some)
    to (Some u) h starts some = ap (λ n. Some n) (network.starts u.0 t s h starts)
