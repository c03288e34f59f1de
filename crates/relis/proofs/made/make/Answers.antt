use Rattle.std.proofs.Common.{◌≡◌, ℕ, List, ◌++◌, refl, ap, ◌∙◌, subst}
use Rattle.rl_base.specs.declared.limits.TheConstants.{DEFAULT_TRIES}
use Rattle.rl_model.specs.declared.network.NetworkPlan.{NetworkPlan}
use Rattle.relis.specs.declared.made.TheConstants.{MADE_ROUNDS}
use Rattle.relis.specs.Commands.{IsDrivenReport, nodes_in_rounds}
use Rattle.relis.specs.Summaries.{size_line, counts_line}
use Rattle.relis.proofs.RingSize.{ring_fits}
use Rattle.relis.proofs.made.make.Goals as goal

pub unreachable-requires : goal.unreachable-requires
unreachable-requires c = ring_fits c.args.n c.in_ok-net.net c.in_ok-net.ensures c.requires.high (c.in-None.ensures.none.0 refl)

pub returns : goal.returns
returns c =
    record {
      report = c.in_ok-report.report;
      driven =
          subst (λ (net : NetworkPlan). IsDrivenReport net DEFAULT_TRIES (nodes_in_rounds net MADE_ROUNDS) c.in_ok-report.report) c.in_ok-net.ensures
          (subst (λ (nodes : List ℕ). IsDrivenReport c.in_ok-net.net DEFAULT_TRIES nodes c.in_ok-report.report) c.in-Some.ensures.rounds
          c.in_ok-report.ensures);
      text_is =
          c.in_ok-put_counts.ensures
          ∙ ap (λ (t : List ℕ). t ++ counts_line c.in_ok-report.report)
          (c.in_ok-put_size.ensures ∙ ap (λ (t : List ℕ). t ++ size_line c.args.n c.in_ok-net.net) c.new-out.ensures)
          ∙ ap (λ (net : NetworkPlan). size_line c.args.n net ++ counts_line c.in_ok-report.report) c.in_ok-net.ensures;
    }
