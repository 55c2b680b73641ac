-- The text of a chart that is split into parts.
use Rattle.std.specs.Prelude.{◌≡◌, ℕ, ◌++◌, Bool, true, false, List, All, map, filter, length, slice_index_or}
use Rattle.std.specs.List.{flat_map, range_with_len}
use Rattle.std.specs.Fmt.{decimal}
use lib.Chars.{codes}
use Rattle.wf_parts.specs.declared.data.PartTransition.{PartTransition}
use Rattle.wf_parts.specs.declared.data.PartData.{PartData}
use Rattle.wf_model.specs.declared.chart.Chart.{Chart}
use Rattle.wf_words.specs.Names.{state_name, var_name, event_name, act_name}
use Rattle.wf_parts.specs.Known.{watches_state}
use Rattle.wf_parts.specs.Parts.{part_of}
use Rattle.wf_words.specs.Transitions.{trans_list}
use Rattle.wf_ortho.specs.Lines.{component_line}

abbrev pub own_word : Bool → List ℕ
own_word true = codes " own"
own_word false = codes " other"

-- guard tN, the unit's own or another's, and the transitions that block it
unfoldable pub guard_line : PartTransition → List ℕ
guard_line p = codes "guard t" ++ decimal p.id.0 ++ (own_word p.own ++ (codes " unless" ++ trans_list p.blockers ++ codes "\n"))

abbrev pub name_text : List ℕ → List ℕ
name_text name = codes " " ++ name

-- a word, and names behind it
unfoldable pub names_line : List ℕ → List (List ℕ) → List ℕ
names_line word names = word ++ flat_map name_text names ++ codes "\n"

-- the names of the states that the unit watches, and of the variables, events and activities that it knows
unfoldable pub known_lines : Chart → PartData → List ℕ
known_lines chart part =
    names_line (codes "states") (map (λ k. state_name chart k.id) (filter (λ k. watches_state chart part.unit.0 k.id.0) part.states))
    ++ (names_line (codes "vars") (map (λ k. var_name chart k.id) part.vars)
    ++ (names_line (codes "events") (map (λ k. event_name chart k.id) part.events)
    ++ names_line (codes "acts") (map (λ k. act_name chart k.id) part.acts)))

abbrev pub bit : List Bool → ℕ → Bool
bit bits s = slice_index_or bits s false

-- of each state that the unit knows, the bit tells whether it watches it
abbrev pub AreWatched : Chart → PartData → List Bool → Type 0
AreWatched chart part bits = All (λ k. bit bits k.id.0 ≡ watches_state chart part.unit.0 k.id.0) part.states

-- unit NAME, its components, the guards that concern it, and what it knows
unfoldable pub part_text : Chart → PartData → List ℕ
part_text chart part =
    codes "unit " ++ part.name ++ (codes "\n" ++ flat_map (component_line chart) part.components ++ (flat_map guard_line part.transitions ++ known_lines chart part))

-- unit by unit
unfoldable pub split_text : Chart → List ℕ
split_text chart = flat_map (λ u. part_text chart (part_of chart u)) (range_with_len 0 (length chart.units))
