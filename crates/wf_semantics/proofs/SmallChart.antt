-- A chart that is accepted: the laws speak of some chart.
use Rattle.std.proofs.Common.{[], ◌∷◌, Some, None, refl}
use lib.Chars.{codes}
use Rattle.wf_model.specs.declared.chart.Chart.{Chart}
use Rattle.wf_model.specs.declared.chart.Kind.TheVariants.{Basic, Or}
use Rattle.wf_model.specs.Tree.{ancestors_by}
use Rattle.wf_model.specs.Names.{is_reserved, is_name}
use Rattle.wf_model.specs.Accepted.{IsAccepted, is_accepted, is_small, is_numbered, is_named, is_shaped, is_sorted}

-- R { A B }, and a transition from A to B
abbrev small : Chart
small =
    record {
      name = codes "small";
      units = codes "u" ∷ [];
      events = record { name = codes "fault"; unit = None } ∷ [];
      vars = [];
      acts = [];
      states = record { name = codes "R"; kind = Or; parent = None; unit = record { 0 = 0 } }
          ∷ record { name = codes "A"; kind = Basic; parent = Some (record { 0 = 0 }); unit = record { 0 = 0 } }
          ∷ record { name = codes "B"; kind = Basic; parent = Some (record { 0 = 0 }); unit = record { 0 = 0 } }
          ∷ [];
      transitions = record { source = record { 0 = 1 }; target = record { 0 = 2 }; event = Some (record { 0 = 0 }); guard = None; actions = [] } ∷ [];
    }

is_small_accepted : IsAccepted small
unfolding is_accepted is_small is_numbered is_named is_shaped is_sorted is_name is_reserved ancestors_by
is_small_accepted = refl
