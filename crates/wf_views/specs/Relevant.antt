-- What of an update a peer is sent.
use Rattle.std.specs.Prelude.{ℕ, ◌==◌, ◌&&◌, Bool, false, List, [], filter, filter_map, find}
use Rattle.std.specs.Option.{option_map_or}
use Rattle.std.specs.List.{list_any, list_all}
use Rattle.wf_model.specs.declared.outer.Outer.{Outer}
use Rattle.wf_model.specs.declared.outer.Outer.TheVariants.{Happen, Complete}
use Rattle.wf_model.specs.declared.update.Update.{Update}
use Rattle.wf_parts.specs.declared.data.Known.{Known}
use Rattle.wf_parts.specs.Peers.{Knowledge}
use Rattle.wf_views.specs.Knowledge.{cut_outer}

-- the update as far as its numbers are known; `fired` is for its own unit alone
unfoldable pub cut_update : Knowledge → Update → Update
cut_update known update =
    record update {
      flips = filter (λ s. known.states s.0) update.flips;
      writes = filter (λ write. known.vars write.var.0) update.writes;
      raised = filter (λ e. known.events e.0) update.raised;
      starts = filter (λ start. known.acts start.act.0) update.starts;
      fired = [];
      outer = filter_map (cut_outer known) update.outer;
    }

-- all numbers of an outer, and of an update, are among these

abbrev pub is_outer_within : Knowledge → Outer → Bool
is_outer_within known (Happen e) = known.events e.0
is_outer_within known (Complete item a outputs) = known.acts a.0 && list_all (λ o. known.vars o.var.0) outputs

abbrev pub is_within : Knowledge → Update → Bool
is_within known update =
    list_all (λ s. known.states s.0) update.flips && (list_all (λ write. known.vars write.var.0) update.writes
    && (list_all (λ e. known.events e.0) update.raised && (list_all (λ start. known.acts start.act.0) update.starts
    && list_all (is_outer_within known) update.outer)))

-- what a peer knows, by the list that its sender keeps of it
abbrev pub is_listed : Known → Knowledge
is_listed known =
    record {
      states = λ s. list_any (λ i. i.0 == s) known.states;
      vars = λ x. list_any (λ i. i.0 == x) known.vars;
      events = λ e. list_any (λ i. i.0 == e) known.events;
      acts = λ a. list_any (λ i. i.0 == a) known.acts;
    }

abbrev pub nothing : Knowledge
nothing = record { states = λ s. false; vars = λ x. false; events = λ e. false; acts = λ a. false }

-- the update cut for peer v, by what the sender keeps of its peers; who is no peer is sent nothing
abbrev pub relevant : List Known → Update → ℕ → Update
relevant peers update v = cut_update (option_map_or is_listed (find (λ known. known.unit.0 == v) peers) nothing) update
