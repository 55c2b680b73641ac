use Rattle.std.proofs.Common.{◌≢◌, sym, ap, ◌∙◌, subst, refl}
use Rattle.std.specs.Prelude.{IfErr}
use Rattle.wf_server.specs.Servers.{Server}
use Rattle.wf_server.specs.Inbox.{AllCame, AreMissing}
use Rattle.wf_actors.specs.Stops.{IsStopOf}
use Rattle.wf_actors.proofs.Stepped.{never_taken, missing_for, turn_stop, still_works}
use Rattle.wf_actors.proofs.Going.{turns_none}
use Rattle.wf_actors.proofs.stepping.step.Goals as goal

pub untaken-requires : goal.untaken-requires
untaken-requires g c =
    record {
      missing = (λ absent is.
          subst (λ (s : Server _). AreMissing s.part s.came absent.0 × (absent.0 ≢ 0)) (sym (c.in-Err.ensures.kept refl))
          (missing_for c.args.node.now c.in-Err.fault c.in-Err.ensures.answer absent is));
    }

pub returns-in-Err : goal.returns-in-Err
returns-in-Err g c =
    let told = g.D.Disk.told in
    let old = c.args.node.now in
    let new = c.turn.new.node in
    let e = c.in-Err.ensures in
    let u = c.untaken.ensures in
    let kept = e.kept refl in
    record {
      part = ap (λ (s : Server _). s.part) kept;
      keeps = c.turn.ensures.keeps;
      faults = e.cause.later;
      turns = turns_none old.past new.past (ap (λ (s : Server _). s.past) kept);
      took = (λ is. absurd (never_taken c.in-Err.fault (sym u.outcome ∙ is)));
      inbox = c.held-held.ensures.came;
      later = (λ is. absurd (never_taken c.in-Err.fault (sym u.outcome ∙ is)));
      same = (λ is. kept);
      waits = (λ is all. u.waits is (subst (λ (s : Server _). AllCame s.part s.came) (sym kept) all));
      stopped = subst (λ r. IfErr r (IsStopOf told old new)) (sym u.outcome) (turn_stop told old new c.requires.working c.in-Err.fault e.answer kept (e.place refl) e.cause);
      working = (λ unlike. still_works told old new c.requires.working c.in-Err.fault e.working e.answer (λ is. unlike (u.outcome ∙ is)));
    }
