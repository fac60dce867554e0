-- What the steps of a plan ask and promise: the order of two slots, the place of one in the list, one slot of a sweep, one of a drain.
use Rattle.std.specs.Prelude.{ℕ, ◌+◌, ◌*◌, ◌-◌, ◌≤◌, ◌<◌, ◌≡◌, Bool, true, false, not, ◌⊎◌, List, [], ◌∷◌, ◌++◌, leb, length, take, drop, get_or}
use Rattle.queue.specs.Tree.{never, Sound}
use Rattle.slots.specs.Table.{slot, key_of, is_used}
use Rattle.table.specs.View.{view}
use Rattle.table.specs.Due.{end_of, due_of, due_for, DuePut}
use Rattle.state.specs.State.{SoundFlows}
use Rattle.rules.specs.Order.{at_most}
use Rattle.rules.specs.Totals.{All}
use Rattle.rules.specs.Rules.{Flow}
use Rattle.rules.specs.Engine.{engine}
use Rattle.state.specs.Names.{NamesAllBut}

-- ## The order of slots

-- a comes before b, and is not the same
abbrev pub before : List ℕ → List ℕ → Bool
before a b = not (at_most b a)

-- slot i lies within the state
abbrev pub Fits : List ℕ → ℕ → Type 0
Fits s i = 256 + 624 * i + 624 ≤ length s

-- slot i's rank by key
abbrev pub key_at : List ℕ → ℕ → List ℕ
key_at s i = key_of (slot s i)

-- .. and by end and then key
abbrev pub rank_at : List ℕ → ℕ → List ℕ
rank_at s i = end_of (slot s i) ∷ key_at s i

-- ## The place of a slot in the list

-- the slots before place k of the list come before slot i, and the others do not
pub record PlaceFor (rank : ℕ → List ℕ) (listed : List ℕ) (i k : ℕ) : Type 0 where
  pub within : k ≤ length listed
  pub last : 0 < k → at_most (rank i) (rank (get_or listed (k - 1) 0)) ≡ false
  pub behind : (j : ℕ) → k ≤ j → j < length listed → at_most (rank i) (rank (get_or listed j 0)) ≡ true

-- to look for it among the first n of the list
pub record PlaceAsked (s leaving : List ℕ) (n i : ℕ) : Type 0 where
  pub fits : Fits s i
  pub long : n ≤ length leaving
  pub others : All (Fits s) (take n leaving)

-- slot i put into place k
abbrev pub put_at : ℕ → ℕ → List ℕ → List ℕ
put_at k i listed = take k listed ++ (i ∷ drop k listed)

-- slot i put into its place
pub record PutIn (rank : ℕ → List ℕ) (listed listed' : List ℕ) (i : ℕ) : Type 0 where
  pub k : ℕ
  pub place : PlaceFor rank listed i k
  pub is : listed' ≡ put_at k i listed

-- ## One slot of a sweep

-- end + T is at most the limit
abbrev pub goes : ℕ → ℕ → Flow engine → Bool
goes T limit f = leb (engine.latest f.held + T) limit

-- n slots are listed, and the list has room for slot i
pub record OneAsked (c : ℕ) (s leaving : List ℕ) (n i : ℕ) : Type 0 where
  pub size : 256 + 640 * c ≤ length s
  pub most : c ≤ 4096
  pub room : c ≤ length leaving
  pub few : n < c
  pub low : i < c
  pub others : All (λ j. j < c) (take n leaving)
  pub sound : Sound (view c s).tree c

-- slot i's entry was not its due time, and is now; the list is as it was
pub record GoesBack (c T i n : ℕ) (s s' leaving leaving' : List ℕ) (r : ℕ) : Type 0 where
  pub other : due_of c (view c s).tree i ≡ due_for (end_of (slot s i)) T → ⊥
  pub queue : DuePut c i (due_for (end_of (slot s i)) T) (view c s) (view c s')
  pub count : r ≡ n
  pub list : take r leaving' ≡ take n leaving

-- slot i's entry was its due time, and it went from the queue to the list
pub record GoesOut (c T i n : ℕ) (s s' leaving leaving' : List ℕ) (r : ℕ) : Type 0 where
  pub exact : due_of c (view c s).tree i ≡ due_for (end_of (slot s i)) T
  pub queue : DuePut c i never (view c s) (view c s')
  pub count : r ≡ n + 1
  pub list : PutIn (rank_at s) (take n leaving) (take r leaving') i

-- slot i dealt with; r slots are listed then
abbrev pub Dealt : (c T i n : ℕ) (s s' leaving leaving' : List ℕ) (r : ℕ) → Type 0
Dealt c T i n s s' leaving leaving' r = GoesBack c T i n s s' leaving leaving' r ⊎ GoesOut c T i n s s' leaving leaving' r

-- as for a sweep's plan, with a timeout, and a limit below the greatest due time
pub record SweepAsked (c T limit : ℕ) (s leaving : List ℕ) : Type 0 where
  pub size : 256 + 640 * c ≤ length s
  pub some : 0 < c
  pub most : c ≤ 4096
  pub room : c ≤ length leaving
  pub timed : T ≡ 0 → ⊥
  pub below : limit < never - 1
  pub flows : SoundFlows s c
  pub names : NamesAllBut c T (view c s).table (view c s).tree []

-- ## One slot of a drain

-- n slots are listed, and the list has room for slot i
pub record GatherAsked (s leaving : List ℕ) (n i : ℕ) : Type 0 where
  pub small : i < 4096
  pub fits : Fits s i
  pub room : n < length leaving
  pub others : All (Fits s) (take n leaving)

-- slot i is free, and the list is as it was
pub record PassedOver (i n : ℕ) (s leaving leaving' : List ℕ) (r : ℕ) : Type 0 where
  pub free : is_used (slot s i) ≡ false
  pub count : r ≡ n
  pub list : take r leaving' ≡ take n leaving

-- slot i is used, and went into the list
pub record TakenIn (i n : ℕ) (s leaving leaving' : List ℕ) (r : ℕ) : Type 0 where
  pub used : is_used (slot s i) ≡ true
  pub count : r ≡ n + 1
  pub list : PutIn (key_at s) (take n leaving) (take r leaving') i

-- slot i dealt with; r slots are listed then
abbrev pub SlotGathered : (i n : ℕ) (s leaving leaving' : List ℕ) (r : ℕ) → Type 0
SlotGathered i n s leaving leaving' r = PassedOver i n s leaving leaving' r ⊎ TakenIn i n s leaving leaving' r
