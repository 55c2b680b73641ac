-- Inner. The places of a shelf of disks in memory: which is that of a name, and what stands there.
use Rattle.std.specs.Prelude.{ℕ, Bool, List, length, find, Option, None, Some}
use Rattle.std.specs.Str.{bytes_eq}
use Rattle.wf_disk.specs.Memory.{Held, new_disk}
use Rattle.wf_shelf.specs.declared.place.Place.{Place}

-- this place is that of this name
abbrev pub is_named : List ℕ → Place → Bool
is_named name place = bytes_eq place.name name

-- the place of this name, if there is one
abbrev pub place_of : List ℕ → List Place → Option Place
place_of name places = find (is_named name) places

-- a disk as it goes out, with no fault counted
abbrev pub handed : Option Held → Option Held
handed None = None
handed (Some disk) = Some (record disk { faults = 0 })

-- the moment at which the disk of a place was taken last, once it goes out, or is out
abbrev pub taken_last : Option Held → ℕ → ℕ
taken_last None before = before
taken_last (Some disk) before = length disk.strokes

-- the place after its disk went out
abbrev pub emptied : Place → Place
emptied place = record place { disk = None; taken_at = taken_last place.disk place.taken_at }

-- the place with this disk
abbrev pub filled : Held → Place → Place
filled disk place = record place { disk = Some disk }

-- a disk as it goes out of a place, if there is one
abbrev pub handed_from : Option Place → Option Held
handed_from None = None
handed_from (Some place) = handed place.disk

-- the place of a new disk that is out
abbrev pub new_place : List ℕ → Place
new_place name = record { name = name; disk = None; taken_at = 0 }

-- what stands at a place; where there is none yet, a new disk
abbrev pub standing : Option Place → Option Held
standing None = Some new_disk
standing (Some place) = place.disk
