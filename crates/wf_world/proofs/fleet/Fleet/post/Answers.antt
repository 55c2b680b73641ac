use Rattle.std.proofs.Common.{◌≡◌, ◌≤◌, ◌+◌, List, [], ◌∷◌, ◌++◌, length, sym, ap, subst}
use Rattle.std.specs.Prelude.{OnOk}
use Rattle.wf_model.specs.Limits.{max_sent}
use Rattle.wf_world.specs.declared.mail.Sent.{Sent}
use Rattle.wf_world.specs.Mail.{bytes_in}
use Rattle.wf_world.specs.Fleets.{FleetState, IsPost, Posts, Overflows}
use Rattle.wf_world.specs.contracts.fleet.Fleet.{the_view}
use Rattle.wf_world.proofs.Results.{on_ok}
use Rattle.wf_world.proofs.fleet.Fleet.post.Goals as goal

pub returns-clause-posted : goal.returns-clause-posted
returns-clause-posted c =
    let v = the_view c.self.inside in
    let x : Sent = record { sender = c.args.from; receiver = c.args.to; step = c.args.step; bytes = c.in_ok-bytes.bytes } in
    let post : IsPost v c.args.from c.args.to c.args.step x = subst (λ (y : FleetState). IsPost y c.args.from c.args.to c.args.step x) (sym c.self.view_is) c.in_ok-bytes.ensures.post in
    subst (λ (y : FleetState). OnOk c.post.result (Posts y c.args.from c.args.to c.args.step (record v { messages = c.post.new.self }))) c.self.view_is
    (on_ok c.post.result (c.post.new.self ≡ v.messages ++ x ∷ []) (Posts v c.args.from c.args.to c.args.step (record v { messages = c.post.new.self })) c.post.ensures.sent
    (λ sent. record {
      x = x;
      post = post;
      after = ap (λ (ms : List Sent). record v { messages = ms }) sent;
      few = subst (λ (ms : List Sent). bytes_in ms ≤ max_sent) sent c.post.ensures.few;
    }))

pub returns-clause-over : goal.returns-clause-over
returns-clause-over c =
    λ e.
    let v = the_view c.self.inside in
    let x : Sent = record { sender = c.args.from; receiver = c.args.to; step = c.args.step; bytes = c.in_ok-bytes.bytes } in
    let post : IsPost v c.args.from c.args.to c.args.step x = subst (λ (y : FleetState). IsPost y c.args.from c.args.to c.args.step x) (sym c.self.view_is) c.in_ok-bytes.ensures.post in
    subst (λ (y : FleetState). Overflows y c.args.from c.args.to c.args.step) c.self.view_is (record { x = x; post = post; over = c.post.ensures.over e })
