use Rattle.std.proofs.Common.{◌≡◌, ◌↔◌, ℕ, Option, Some, None, IfSome, refl, sym, ap, subst, ◌∙◌}
use Rattle.rl_base.specs.declared.layout.NodeKind.TheVariants as nodes
use Rattle.rl_base.specs.Layout.{node_number}
use Rattle.rl_words.specs.Owner.{Owns}
use Rattle.rl_box.specs.declared.mind.BoxMind.{BoxMind}
use Rattle.rl_box.specs.Kept.{IsAtWord, KeepsBox}
use Rattle.rl_box.specs.Mind.{IsBoxMind}
use Rattle.rl_box.specs.Steps.{box_step}
use Rattle.rl_box.proofs.mind.BoxMind.act.Goals as goal

-- where a result is a step's, its mind is the one after the step
after_step : (P : BoxMind → Type 0) (step r : Option (ℕ × BoxMind)) → ((new : ℕ) (after : BoxMind) → step ≡ Some (new, after) → P after) → r ≡ step
    → IfSome r (λ q. P q.1)
after_step P step None follows e = tt
after_step P step (Some q) follows e = follows q.0 q.1 (sym e)

-- a result that is a step is what the sentences relate
by_lines : {X P : Type 0} (result step : Option X) (x : X) → result ≡ step → (step ≡ Some x) ↔ P → (result ≡ Some x) ↔ P
by_lines result step x is both = (λ e. both.0 (sym is ∙ e), λ p. is ∙ both.1 p)

-- what every step keeps to, of a result that is a step
kept_step : (P : ℕ → BoxMind → Type 0) (step r : Option (ℕ × BoxMind)) → ((new : ℕ) (after : BoxMind) → step ≡ Some (new, after) → P new after) → r ≡ step
    → IfSome r (λ q. P q.0 q.1)
kept_step P step None follows e = tt
kept_step P step (Some q) follows e = follows q.0 q.1 (sym e)

pub returns-then-not-may_step-clause-sentence : goal.returns-then-not-may_step-clause-sentence
returns-then-not-may_step-clause-sentence c = λ kind has number new after.
    by_lines None (box_step c.args.b.now c.args.self.now kind c.args.payload) (new, after)
    (sym (c.may_step.ensures.none c.args.b.now kind refl c.if-not-may_step.true))
    (c.box_lines.ensures c.args.b.now c.args.self.now kind c.args.payload new after)

pub returns-clause-sentence : goal.returns-clause-sentence
returns-clause-sentence c = λ kind has number new after.
    let b = c.args.b.now in
    let mind = c.args.self.now in
    let same = c.word_kind-kind.ensures.only kind has number in
    by_lines c.step.result (box_step b mind kind c.args.payload) (new, after) (c.step.ensures ∙ ap (λ k. box_step b mind k c.args.payload) (sym same))
    (c.box_lines.ensures b mind kind c.args.payload new after)

pub returns-clause-owned : goal.returns-clause-owned
returns-clause-owned c =
    let lay = c.args.lay.now in
    let b = c.args.b.now in
    let mind = c.args.self.now in
    let kind = c.word_kind-kind.result in
    let at : IsAtWord lay b mind kind = record {
      boxes = c.requires.boxes;
      trains = c.requires.trains;
      there = c.requires.there;
      mind_is = c.requires.mind;
      word = c.word_kind-kind.ensures.there;
    } in
    let Owned : ℕ → Type 0 = λ w. Owns lay w c.args.payload (node_number lay (nodes.Box b.number)) in
    kept_step (λ new after. Owned c.args.w.0) (box_step b mind kind c.args.payload) c.step.result
    (λ new after e. subst Owned c.word_kind-kind.ensures.number (c.box_steps.ensures lay b mind kind c.args.payload new after at e).owned) c.step.ensures

pub returns-clause-kept : goal.returns-clause-kept
returns-clause-kept c =
    let lay = c.args.lay.now in
    let b = c.args.b.now in
    let mind = c.args.self.now in
    let kind = c.word_kind-kind.result in
    let at : IsAtWord lay b mind kind =
    record {
      boxes = c.requires.boxes;
      trains = c.requires.trains;
      there = c.requires.there;
      mind_is = c.requires.mind;
      word =
          c.word_kind-kind.ensures.there;
    } in
    after_step (IsBoxMind lay b) (box_step b mind kind c.args.payload) c.step.result
    (λ new after e. let kept : KeepsBox lay b mind kind c.args.payload new after = c.box_steps.ensures lay b mind kind c.args.payload new after at e in
    kept.after_is) c.step.ensures
