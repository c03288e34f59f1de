use Rattle.std.proofs.Common.{inl, inr, refl}
use Rattle.relis.specs.Calls.{outside}
use Rattle.relis.proofs.Causes.{written_whole, no_write_fault, told_fault, same_answer, run_is_done}
use Rattle.relis.proofs.top.tell.Goals as goal

pub returns-in-Ok-put_all : goal.returns-in-Ok-put_all
returns-in-Ok-put_all g c = λ asked held after first last outcome fetched.
    let before = outside held first (g.K.Sink.written c.args.out.now) (g.K.Sink.faults c.args.out.now) in
    let now = outside after last (g.K.Sink.written c.put_all.new.out) (g.K.Sink.faults c.put_all.new.out) in
    let status = c.in-Ok.decision.status in
    let text = c.in-Ok.decision.text in
    let leads = c.in-Ok.ensures asked held first last outcome in
    record {
      written = written_whole asked before now status text leads (rw c.bytes.ensures at c.in-Ok-put_all.ensures.whole);
      write_fault = λ is. absurd (no_write_fault asked held first last status text leads is);
      puts = λ _. c.in-Ok-put_all.ensures.kept;
      fetches = λ rose. inl (told_fault asked held first last status text leads rose);
      complete = λ nothing all answer other cause.
          inl (same_answer asked held first last status answer text other all nothing.files leads cause);
      runs = λ nothing all asks. inl (run_is_done asked before first last status text asks all nothing.files leads);
      files_stay = fetched.stay;
      others = fetched.others;
      later = fetched.later;
      sink_later = c.put_all.ensures.later;
    }

pub returns-in-Ok : goal.returns-in-Ok
returns-in-Ok g c = λ asked held after first last outcome fetched.
    let status = c.in-Ok.decision.status in
    let text = c.in-Ok.decision.text in
    let leads = c.in-Ok.ensures asked held first last outcome in
    record {
      written = (status, text, leads, rw c.bytes.ensures at c.in-Err-put_all.ensures.part);
      write_fault = λ _. c.in-Err-put_all.ensures.cause;
      puts = λ other. absurd (other refl);
      fetches = λ rose. inr (inl refl);
      complete = λ nothing all answer other cause. absurd (nothing.sink c.in-Err-put_all.ensures.cause);
      runs = λ nothing all asks. absurd (nothing.sink c.in-Err-put_all.ensures.cause);
      files_stay = fetched.stay;
      others = fetched.others;
      later = fetched.later;
      sink_later = c.put_all.ensures.later;
    }
