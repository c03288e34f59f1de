-- At each value of a word at most one node may change it.
use Rattle.std.proofs.Common.{◌≡◌, ℕ, sym, ap, subst, ◌∙◌}
use Rattle.rl_base.specs.declared.layout.Layout.{Layout}
use Rattle.rl_base.specs.declared.layout.NodeKind.{NodeKind}
use Rattle.rl_base.specs.declared.layout.WordKind.{WordKind}
use Rattle.rl_base.specs.declared.layout.WordKind.TheVariants.{Still, Resv, Lock, Mail, Run, Sense}
use Rattle.rl_base.specs.Layout.{word_number, HasWord, node_number}
use Rattle.rl_words.specs.Owner.{lock_owner, mail_owner, run_owner, sense_owner, MayChange, Owns}
use Rattle.rl_words.proofs.PackingLemmas.{same_lock, same_mail, same_run, same_sense}

-- of a word and a payload
same_changer : (word : WordKind) (payload : ℕ) (a b : NodeKind) → MayChange word payload a → MayChange word payload b → a ≡ b
same_changer Still payload a b ha hb = absurd ha
same_changer (Resv box) payload a b ha hb = ha.3 ∙ sym hb.3
same_changer (Lock box) payload a b ha hb = ha.3 ∙ ap (lock_owner box) (same_lock ha.0 hb.0 ha.1 hb.1 (ha.2 ∙ sym hb.2)) ∙ sym hb.3
same_changer (Mail t) payload a b ha hb = ha.3 ∙ ap (mail_owner t) (same_mail ha.0 hb.0 ha.1 hb.1 (ha.2 ∙ sym hb.2)) ∙ sym hb.3
same_changer (Run t) payload a b ha hb = ha.3 ∙ ap (run_owner t) (same_run ha.0 hb.0 ha.1 hb.1 (ha.2 ∙ sym hb.2)) ∙ sym hb.3
same_changer (Sense t) payload a b ha hb = ha.3 ∙ ap (sense_owner t) (same_sense ha.0 hb.0 ha.1 hb.1 (ha.2 ∙ sym hb.2)) ∙ sym hb.3

-- no two words of a layout have one number
abbrev pub NumbersWords : Layout → Type 0
NumbersWords lay = (j k : WordKind) → HasWord lay j → HasWord lay k → word_number lay j ≡ word_number lay k → j ≡ k

-- of a word's number and a payload
pub same_owner : (lay : Layout) (w payload m n : ℕ) → NumbersWords lay → Owns lay w payload m → Owns lay w payload n → m ≡ n
same_owner lay w payload m n numbered a b =
    let word : a.word ≡ b.word = numbered a.word b.word a.has_word b.has_word (a.word_is ∙ sym b.word_is) in
    let P : WordKind → Type 0 = λ k. MayChange k payload a.node in
    let node : a.node ≡ b.node = same_changer b.word payload a.node b.node (subst P word a.changes) b.changes in
    sym a.node_is ∙ ap (node_number lay) node ∙ b.node_is
