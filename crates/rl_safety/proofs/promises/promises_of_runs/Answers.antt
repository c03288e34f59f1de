use Rattle.rl_safety.proofs.promises.promises_of_runs.Goals as goal

pub returns : goal.returns
returns c = λ tables tries events line few run.
    record {
      agrees = c.agreement.ensures tables tries events line few run;
      readable = c.readable_words.ensures tables tries events line few run;
      refusals = λ t. c.counted_refusals.ensures tables tries events t line few run;
      few_attempts = c.counted_events.ensures.opened tables tries events;
      few_events = c.counted_events.ensures.events tables tries events line few run;
      few_of_node = λ n node at. c.counted_events.ensures.node tables tries events n node line few run at;
      few_moves = c.counted_events.ensures.moves tables tries events line few run;
      at_rest = λ rest. c.trains_at_rest.ensures.all tables tries events line few run rest;
      on = λ net network are. record {
        safe = c.safe_runs.ensures.runs net tables tries events network are few run;
        named = c.safe_runs.ensures.named net tables tries events network are few run;
        world = c.safe_runs.ensures.world net tables tries events network are few run;
        rests = λ t there rest. c.trains_at_rest.ensures.each net tables tries events t network are few run there rest;
      };
    }
