use Rattle.std.proofs.Common.{length, map, ap, refl, ◌∙◌, subst, arith}
use Rattle.wf_histories.specs.Histories.{History, taken}
use Rattle.wf_parts.specs.declared.data.PartData.{PartData}
use Rattle.wf_server.specs.Servers.{Server}
use Rattle.wf_actors.specs.Answering.{ring_at, KeepsAnswered, KeepsAsked}
use Rattle.wf_actors.specs.Sendings.{Sends, SendsSome}
use Rattle.wf_actors.proofs.Moving.{reach_stays}
use Rattle.wf_actors.proofs.Working.{begun, begun_some, still_within, ended, ended_sends, ended_some, asked_on, answered_on, within_from, lent_back, both_same, ran_on, goes_since}
use Rattle.wf_actors.proofs.unit.UnitActor.work.Goals as goal

pub take_steps-requires-clause-reach : goal.take_steps-requires-clause-reach
take_steps-requires-clause-reach g c v lt =
    let t = c.take_in_all.ensures in
    let b = begun g.D.Disk.told c.args.self.now.node c.take_in_all.new.node c.answer_all.new.node c.args.self.now.port c.take_in_all.new.port c.args.self.now.refused c.take_in_all.new.refused t.rest t.ways t.ends t.stays t.rows c.answer_all.ensures.admits in
    let same = ap (λ (p : PartData). p.units) b.moves.part in
    reach_stays c.args.self.now.port c.take_in_all.new.port v t.ways (c.requires.reach v (omega (arith, lt, same)))

pub returns-in_err-answer_all-clause-ran : goal.returns-in_err-answer_all-clause-ran
returns-in_err-answer_all-clause-ran g c =
    let told = g.D.Disk.told in
    let self = c.args.self.now in
    let t = c.take_in_all.ensures in
    let a = c.answer_all.ensures in
    let taking = c.take_in_all.new.node in
    let answered = c.answer_all.new.node in
    let took = c.take_in_all.new.port in
    let now = c.take_in_all.new.refused in
    let b = begun told self.node taking answered self.port took self.refused now t.rest t.ways t.ends t.stays t.rows a.admits in
    let steps = b.steps in
    let past = ap (λ (s : Server _). s.past) t.rest in
    let lent = c.deref_mut.ensures.value in
    let desks = lent_back self.desks c.deref_mut.result.now c.answer_all.new.desks lent c.answer_all.auto.desks in
    record {
      moves = b.moves;
      boxes = refl;
      rings = ap (map ring_at) desks ∙ a.rings ∙ ap (map ring_at) lent;
      sends = begun_some told self.node answered self.port took self.refused now b self.outboxes.items;
      asked = both_same (KeepsAsked self.node.past answered.past) _ _ _ _ lent desks (subst (λ (h : History). KeepsAsked h answered.past c.deref_mut.result.now c.answer_all.new.desks) past a.some);
      most = omega (arith, steps);
      within = still_within told self.node answered self.port took self.refused now b c.args.target;
    }

pub returns-clause-ran : goal.returns-clause-ran
returns-clause-ran g c =
    let told = g.D.Disk.told in
    let self = c.args.self.now in
    let t = c.take_in_all.ensures in
    let a = c.answer_all.ensures in
    let s = c.take_steps.ensures in
    let taking = c.take_in_all.new.node in
    let answered = c.answer_all.new.node in
    let took = c.take_in_all.new.port in
    let now = c.take_in_all.new.refused in
    let last = c.take_steps.new.node in
    let went = c.take_steps.new.port in
    let b = begun told self.node taking answered self.port took self.refused now t.rest t.ways t.ends t.stays t.rows a.admits in
    let steps = b.steps in
    let most = s.most in
    let past = ap (λ (s : Server _). s.past) t.rest in
    let lent = c.deref_mut.ensures.value in
    let desks = lent_back self.desks c.deref_mut.result.now c.answer_all.new.desks lent c.answer_all.auto.desks in
    let opened = c.deref_mut-2.ensures.value in
    let boxes = lent_back self.outboxes c.deref_mut-2.result.now c.take_steps.new.outboxes opened c.take_steps.auto.outboxes in
    record {
      moves = ended told self.node answered self.port took self.refused now b last went c.take_steps.new.refused s.moves;
      boxes = ap length boxes ∙ c.take_steps.auto.outboxes ∙ ap length opened;
      rings = ap (map ring_at) desks ∙ a.rings ∙ ap (map ring_at) lent;
      sends = ended_some told self.node answered self.port took self.refused now b last went self.outboxes.items _ (both_same (SendsSome answered last took went) _ _ _ _ opened boxes s.some);
      asked = both_same (KeepsAsked self.node.past last.past) _ _ _ _ lent desks
          (asked_on self.node.past answered.past last.past c.deref_mut.result.now c.answer_all.new.desks
          (subst (λ (h : History). KeepsAsked h answered.past c.deref_mut.result.now c.answer_all.new.desks) past a.some) s.turns);
      most = omega (arith, steps, most);
      within = within_from c.args.target (taken self.node.past) (taken answered.past) (taken last.past) steps s.target;
    }

pub returns-clause-on : goal.returns-clause-on
returns-clause-on g c =
    let told = g.D.Disk.told in
    let self = c.args.self.now in
    let t = c.take_in_all.ensures in
    let a = c.answer_all.ensures in
    let s = c.take_steps.ensures in
    let taking = c.take_in_all.new.node in
    let answered = c.answer_all.new.node in
    let took = c.take_in_all.new.port in
    let now = c.take_in_all.new.refused in
    let last = c.take_steps.new.node in
    let went = c.take_steps.new.port in
    let b = begun told self.node taking answered self.port took self.refused now t.rest t.ways t.ends t.stays t.rows a.admits in
    let past = ap (λ (s : Server _). s.past) t.rest in
    let lent = c.deref_mut.ensures.value in
    let desks = lent_back self.desks c.deref_mut.result.now c.answer_all.new.desks lent c.answer_all.auto.desks in
    let opened = c.deref_mut-2.ensures.value in
    let boxes = lent_back self.outboxes c.deref_mut-2.result.now c.take_steps.new.outboxes opened c.take_steps.auto.outboxes in
    ran_on c.args.target self _ c.take_steps.result s.working
    s.sent
    (λ sent. ended_sends told self.node answered self.port took self.refused now b last went self.outboxes.items _ (both_same (Sends answered last took went) _ _ _ _ opened boxes sent))
    (both_same (KeepsAnswered self.node.past last.past) _ _ _ _ lent desks
    (answered_on self.node.past answered.past last.past c.deref_mut.result.now c.answer_all.new.desks
    (subst (λ (h : History). KeepsAnswered h answered.past c.deref_mut.result.now c.answer_all.new.desks) past c.in_ok-answer_all.ensures.said) s.turns))
    s.goes
    (goes_since told self.node answered self.port took self.refused now b c.args.target (taken last.past))
