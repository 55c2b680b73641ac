-- Of the laws. All servers, and what holds of them whatever is sent, lost or in doubt.
-- A world has the servers with their histories, what they hold of their peers, what may stand in
-- their journals, and all messages ever sent.
use Rattle.std.specs.Prelude.{ℕ, suc, ◌+◌, ◌≡◌, ◌<◌, ◌≤◌, ◌==◌, ◌&&◌, is_ok, if◌then◌else◌, Bool, true, List, [], ◌∷◌, ◌++◌, length, map, Option, Some, None, option_map, option_and_then, All, slice_get}
use Rattle.wf_model.specs.declared.chart.Chart.{Chart}
use Rattle.wf_model.specs.declared.update.Update.{Update}
use Rattle.wf_model.specs.Accepted.{IsAccepted}
use Rattle.wf_parts.specs.Parts.{part_of}
use Rattle.wf_histories.specs.Histories.{Admission, History, taken, local_update}
use Rattle.wf_histories.specs.Agreement.{Agree, lean, peers}
use Rattle.wf_histories.specs.Laws.{AreLean}
use Rattle.wf_worlds.specs.Admitting.{lets_in}
use Rattle.wf_worlds.specs.Growing.{GoesOn, Fits, Good, admitted, turned}

pub record Message : Type 0 where
  pub sender : ℕ
  pub receiver : ℕ
  pub step : ℕ
  pub update : Update

-- a record of a journal
pub data Record : Type 0 where
  Admits : Admission → Record
  Turns : List Update → Record

-- `held u v j` is the update of step j that u holds of v; `doubt u` is the record that may stand in u's journal or not
pub record World : Type 0 where
  pub hist : ℕ → History
  pub held : ℕ → ℕ → ℕ → Option Update
  pub messages : List Message
  pub doubt : ℕ → Option Record

-- f with x at u
abbrev pub with_unit : {A : Type 0} → (ℕ → A) → ℕ → A → ℕ → A
with_unit f u x v = if v == u then x else f v

-- what f gives of all of them, if it gives something of each
abbrev pub gather : (ℕ → Option Update) → List ℕ → Option (List Update)
gather f [] = Some []
gather f (v ∷ vs) = option_and_then (λ update. option_map (λ updates. update ∷ updates) (gather f vs)) (f v)

abbrev pub stood : Record → History → History
stood (Admits a) h = admitted h a
stood (Turns updates) h = turned h updates

-- how a write ends
pub data Fate : Type 0 where
  Stands : Fate
  IsInDoubt : Fate
  IsLost : Fate

-- what may be done to a world; a message is named by its place
pub data Line : Type 0 where
  Admit : ℕ → Admission → Fate → Line
  Turn : ℕ → Fate → Line
  Send : ℕ → ℕ → Line
  Deliver : ℕ → Line
  -- the unit no longer holds these updates: as it takes a turn, or goes down
  Forget : ℕ → (ℕ → ℕ → Bool) → Line
  -- the doubt ends: the record stands or it doesn't
  Settle : ℕ → Bool → Line

abbrev pub write : World → ℕ → Record → Fate → World
write w u r Stands = record w { hist = with_unit w.hist u (stood r (w.hist u)) }
write w u r IsInDoubt = record w { doubt = with_unit w.doubt u (Some r) }
write w u r IsLost = w

abbrev pub admit_by : Option Record → Bool → World → ℕ → Admission → Fate → World
admit_by (Some r) lets w u a fate = w
admit_by None lets w u a fate = if lets then write w u (Admits a) fate else w

abbrev pub turn_by : Option Record → Option (List Update) → World → ℕ → Fate → World
turn_by (Some r) updates w u fate = w
turn_by None None w u fate = w
turn_by None (Some updates) w u fate = write w u (Turns updates) fate

-- u's update of step j as v is sent it
abbrev pub letter : Chart → (ℕ → History) → ℕ → ℕ → ℕ → Update
letter chart h u v j = lean chart u v (local_update (part_of chart u) (h u) j)

abbrev pub with_message : Chart → World → ℕ → ℕ → ℕ → World
with_message chart w u v j = record w { messages = w.messages ++ record { sender = u; receiver = v; step = j; update = letter chart w.hist u v j } ∷ [] }

abbrev pub delivered : World → Option Message → World
delivered w None = w
delivered w (Some x) = record w { held = λ u v j. if (u == x.receiver) && ((v == x.sender) && (j == x.step)) then Some x.update else w.held u v j }

abbrev pub settled : World → ℕ → Bool → Option Record → World
settled w u stands None = w
settled w u stands (Some r) = record w { hist = if stands then with_unit w.hist u (stood r (w.hist u)) else w.hist; doubt = with_unit w.doubt u None }

abbrev pub act : Chart → World → Line → World
act chart w (Admit u a fate) = admit_by (w.doubt u) (is_ok (lets_in (part_of chart u) (w.hist u) a.outer)) w u a fate
act chart w (Turn u fate) = turn_by (w.doubt u) (gather (λ v. w.held u v (suc (taken (w.hist u)))) (peers (length chart.units) u)) w u fate
act chart w (Send u v) = with_message chart (with_message chart w u v (taken (w.hist u))) u v (suc (taken (w.hist u)))
act chart w (Deliver i) = delivered w (slice_get w.messages i)
act chart w (Forget u which) = record w { held = λ v x j. if (v == u) && which x j then None else w.held v x j }
act chart w (Settle u stands) = settled w u stands (w.doubt u)

-- the units that the line names are units
abbrev pub IsLine : ℕ → Line → Type 0
IsLine n (Admit u a fate) = u < n
IsLine n (Turn u fate) = u < n
IsLine n (Send u v) = (u < n) × (v < n)
IsLine n (Deliver i) = Unit {0}
IsLine n (Forget u which) = u < n
IsLine n (Settle u stands) = u < n

abbrev pub after_lines : Chart → World → List Line → World
after_lines chart w [] = w
after_lines chart w (x ∷ xs) = after_lines chart (act chart w x) xs

abbrev pub AreLines : ℕ → List Line → Type 0
AreLines n [] = Unit {0}
AreLines n (x ∷ xs) = IsLine n x × AreLines n xs

abbrev pub first_history : ℕ → History
first_history u = record { unit = record { 0 = u }; admissions = []; turns = [] }

abbrev pub first_world : World
first_world = record { hist = first_history; held = λ u v j. None; messages = []; doubt = λ u. None }

-- THE INVARIANT

-- it is what u is sent of v's update of step j, which v has made
abbrev pub IsMade : Chart → (ℕ → History) → ℕ → ℕ → ℕ → Update → Type 0
IsMade chart h v u j update = (j ≤ taken (h v) + 1) × (update ≡ letter chart h v u j)

-- the record may stand in u's journal: an admission that the rule lets in; or a Turn with all peers' updates
abbrev pub MayStand : Chart → (ℕ → History) → ℕ → Record → Type 0
MayStand chart h u (Admits a) = is_ok (lets_in (part_of chart u) (h u) a.outer) ≡ true
MayStand chart h u (Turns updates) =
    (updates ≡ map (λ v. letter chart h v u (suc (taken (h u)))) (peers (length chart.units) u)) × ((v : ℕ) → v < length chart.units → taken (h u) ≤ taken (h v))

-- the histories agree, each seals no more than it has and has what Follows asks; all that was sent or is held is what its sender made; and
-- what is in doubt may stand
pub record Sound (chart : Chart) (w : World) : Type 0 where
  pub agree : Agree (lean chart) (length chart.units) (part_of chart) w.hist
  pub fits : (u : ℕ) → u < length chart.units → Fits (w.hist u)
  pub good : (u : ℕ) → u < length chart.units → Good chart u (w.hist u)
  pub sent : All (λ x. (x.sender < length chart.units) × IsMade chart w.hist x.sender x.receiver x.step x.update) w.messages
  pub held : (u v j : ℕ) (update : Update) → u < length chart.units → v < length chart.units → w.held u v j ≡ Some update → IsMade chart w.hist v u j update
  pub doubtful : (u : ℕ) (r : Record) → u < length chart.units → w.doubt u ≡ Some r → MayStand chart w.hist u r

-- a record that may stand keeps it where it stands
abbrev pub StandsSound : Type 0
StandsSound =
    (chart : Chart) (w : World) (u : ℕ) (r : Record) → IsAccepted chart → u < length chart.units → Sound chart w → w.doubt u ≡ None → MayStand chart w.hist u r → Sound chart (record w { hist = with_unit w.hist u (stood r (w.hist u)) })

-- each line keeps it
abbrev pub ActSound : Type 0
ActSound = (chart : Chart) (w : World) (x : Line) → IsAccepted chart → IsLine (length chart.units) x → Sound chart w → Sound chart (act chart w x)

-- and only grows the histories
abbrev pub ActGoesOn : Type 0
ActGoesOn = (chart : Chart) (w : World) (x : Line) (u : ℕ) → GoesOn (w.hist u) ((act chart w x).hist u)

-- after every list of lines it holds
abbrev pub WholeRun : Type 0
WholeRun = (chart : Chart) (xs : List Line) → IsAccepted chart → AreLines (length chart.units) xs → Sound chart (after_lines chart first_world xs)

-- so the central law holds of the histories
abbrev pub SoundIsLean : Type 0
SoundIsLean = (chart : Chart) (w : World) → IsAccepted chart → Sound chart w → AreLean chart w.hist
