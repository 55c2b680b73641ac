-- The messages of a world stay while it acts.
use Rattle.std.proofs.Common.{◌≡◌, ◌++◌, [], sym, ap, ap₂, ◌∙◌}
use Rattle.std.proofs.lemmas.List.{append-nil}
use Rattle.wf_model.specs.declared.chart.Chart.{Chart}
use Rattle.wf_model.specs.declared.update.Update.{Update}
use Rattle.wf_codec.specs.Spelling.{spelling_of}
use Rattle.wf_parts.specs.Peers.{peers_of}
use Rattle.wf_views.specs.Relevant.{relevant}
use Rattle.wf_machine.specs.Machine.{CountingMachine}
use Rattle.wf_machine.specs.Lines.{Acted, act}
use Rattle.wf_machine.specs.Runs.{closed}
use Rattle.wf_machine.proofs.Stays.{act_grows, closed_grows, update_on}
use Rattle.wf_world.specs.Sent.{bytes_of}
use Rattle.wf_world.specs.Plays.{Stay, MessagesStay, MessagesStayToEnd}
use Rattle.wf_world.proofs.Following.{act_messages}

pub messages_stay : MessagesStay
messages_stay s t x r did account =
    let stands = did.machine.0 in
    let acted = (act s.chart s.machine stands x).after in
    let after : acted ≡ t.machine = ap (λ (d : Acted). d.after) did.machine.1 in
    let sent = act_messages s.chart s.machine stands x in
    record {
      more = sent.0;
      messages = ap (λ (m : CountingMachine). m.messages) (sym after) ∙ sent.1;
      bytes = λ n y there unit.
          ap₂ (λ (chart : Chart) (m : CountingMachine). bytes_of chart m y) did.chart (sym after)
          ∙ ap (λ (update : Update). spelling_of (relevant (peers_of s.chart y.sender) update y.receiver))
          (update_on s.machine acted (act_grows s.chart s.machine stands x) account s.chart y.sender y.step unit (account.sent n y there));
    }

pub messages_stay_to_end : MessagesStayToEnd
unfolding closed
messages_stay_to_end s t e did account =
    let bs = did.machine.0 in
    let after : closed s.machine bs ≡ t.machine = did.machine.2 in
    let same = ap (λ (m : CountingMachine). m.messages) (sym after) in
    let stay : Stay s t = record {
      more = [];
      messages = same ∙ sym (append-nil s.machine.messages);
      bytes = λ n y there unit.
          ap₂ (λ (chart : Chart) (m : CountingMachine). bytes_of chart m y) did.chart (sym after)
          ∙ ap (λ (update : Update). spelling_of (relevant (peers_of s.chart y.sender) update y.receiver))
          (update_on s.machine (closed s.machine bs) (closed_grows s.machine bs) account s.chart y.sender y.step unit (account.sent n y there));
    } in
    (stay, same)
