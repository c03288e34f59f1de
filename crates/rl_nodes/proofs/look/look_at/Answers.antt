use Rattle.std.proofs.Common.{◌≡◌, ℕ, ◌∙◌, Option, Some, sym, ap, subst}
use Rattle.rl_base.specs.declared.ids.NodeNo.{NodeNo}
use Rattle.rl_words.specs.Stamps.{payload_in}
use Rattle.rl_tables.specs.declared.table.Tables.{Tables}
use Rattle.rl_steps.specs.declared.mind.Mind.{Mind}
use Rattle.rl_steps.specs.Step.{node_step}
use Rattle.rl_steps.specs.Held.{HasMind}
use Rattle.rl_rule.specs.declared.views.Load.{Load}
use Rattle.rl_rule.specs.declared.views.Walk.{Walk}
use Rattle.rl_rule.specs.Loads.{IsAlone, last_value}
use Rattle.rl_rule.specs.Seats.{walk_of}
use Rattle.rl_rule.specs.Views.{loaded, stepped, event_by}
use Rattle.rl_nodes.proofs.look.look_at.Goals as goal

-- the answer of `act` is that of the node's own mind on the value that was found
acted : (line : Tables) (old new : Walk) (node : NodeNo) (mind : Mind) (w value payload : ℕ) (answer : Option (ℕ × Mind))
    → new ≡ loaded old w value → node ≡ new.node → old.mind ≡ mind → payload ≡ payload_in value
    → answer ≡ node_step line node.0 mind w payload → answer ≡ node_step line old.node.0 old.mind w (payload_in value)
acted line old new node mind w value payload answer walk is mine carried act =
    let here : node ≡ old.node = is ∙ ap (λ (x : Walk). x.node) walk in
    act
    ∙ ap (λ (n : NodeNo). node_step line n.0 mind w payload) here
    ∙ ap (λ (m : Mind). node_step line old.node.0 m w payload) (sym mine)
    ∙ ap (λ (p : ℕ). node_step line old.node.0 old.mind w p) carried

found : (line own : Tables) (walk : Walk) (w value : ℕ) → own ≡ line → (IsAlone own w walk.node.0 → value ≡ last_value own walk.history w)
    → IsAlone line w walk.node.0 → value ≡ last_value line walk.history w
found line own walk w value same alone = subst (λ (t : Tables). IsAlone t w walk.node.0 → value ≡ last_value t walk.history w) same alone

pub returns-in-None-clause-look : goal.returns-in-None-clause-look
returns-in-None-clause-look c =
    let line = c.args.line.now in
    let old = walk_of c.args.seat.now in
    let step = acted line old
    (walk_of c.load-value.new.seat) c.node.result c.args.mind.now c.args.w.0 c.load-value.result c.payload_of.result c.act.result c.load-value.ensures.walk
    c.node.ensures c.requires.mind c.payload_of.ensures c.act.ensures in
    record {
      finds = record {
        tells = c.load-value.ensures.tells;
        alone =
            found line _ old c.args.w.0 c.load-value.result c.requires.seat_line c.load-value.ensures.alone;
      };
      none = sym step ∙ c.in-None.is;
      walk = c.load-value.ensures.walk;
    }

pub returns-in-Some-clause-look : goal.returns-in-Some-clause-look
returns-in-Some-clause-look c =
    let line = c.args.line.now in
    let old = walk_of c.args.seat.now in
    let middle = walk_of c.load-value.new.seat in
    let step = acted line old middle c.node.result c.args.mind.now c.args.w.0 c.load-value.result c.payload_of.result c.act.result c.load-value.ensures.walk
    c.node.ensures c.requires.mind c.payload_of.ensures c.act.ensures in
    let load : Load = record { word = c.args.w; value = c.load-value.result } in
    let made : node_step line old.node.0 old.mind c.args.w.0 (payload_in c.load-value.result) ≡ Some (c.in-Some.payload, c.in-Some.after) =
    sym step ∙ c.in-Some.is in
    let event : c.step.result ≡ event_by middle load c.in-Some.payload = c.step.ensures.event load (ap (λ (x : Walk). x.load) c.load-value.ensures.walk) in
    record {
      value = c.load-value.result;
      payload = c.in-Some.payload;
      finds = record {
        tells = c.load-value.ensures.tells;
        alone =
            found line _ old c.args.w.0 c.load-value.result c.requires.seat_line c.load-value.ensures.alone;
      };
      step = made;
      event = event ∙ ap (λ (x : Walk). event_by x load c.in-Some.payload) c.load-value.ensures.walk;
      walk = c.step.ensures.walk ∙ ap (λ (x : Walk). stepped x c.step.result c.in-Some.after) c.load-value.ensures.walk;
      formed = subst (λ (m : Mind). HasMind line old.node.0 c.in-Some.after) c.requires.mind
          (c.kept_minds.ensures.step line old.node.0 c.args.w.0
          (payload_in c.load-value.result) c.in-Some.payload old.mind c.in-Some.after c.layout-lay.ensures.line
          (subst (λ (m : Mind). HasMind line old.node.0 m) (sym c.requires.mind) c.requires.formed) made);
    }
