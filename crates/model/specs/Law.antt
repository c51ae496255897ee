-- The law of the trails.
use Rattle.std.specs.Prelude.{◌≡◌, ℕ, ◌+◌, ◌*◌, ◌<◌, ◌≤◌, Bool, true, false, cond, ◌⊎◌, List, [], ◌∷◌, Some, None, Ok, Err, Option}
use Rattle.std.specs.Str.{bytes_eq}
use Rattle.codec.specs.Kinds.{Kinds, record_bytes}
use Rattle.table.specs.declared.pair.Head.{Head}
use Rattle.table.specs.declared.pair.Head.TheVariants.{Vacant, Latest, Equal}
use Rattle.table.specs.Store.{TableMeaning, at, apply_all}
use Rattle.journal.specs.Rows.{Row, JournalMeaning, row_at, stored_of, apply_all as apply_journal}
use Rattle.model.specs.declared.Settings.{Settings}
use Rattle.model.specs.declared.Numbers.{Numbers}
use Rattle.model.specs.declared.Fault.{Fault}
use Rattle.model.specs.Common.{earlier, table_index, head_at}
use Rattle.model.specs.Faults.{fault_number}
use Rattle.model.specs.Lookup.{has_no_next, get_answer, has_answer}
use Rattle.model.specs.Init.{init_answer}
use Rattle.model.specs.Put.{put_answer}
use Rattle.model.specs.Sync.{close_answer, sync_answer, sync_table, sync_journal, sync_numbers, start, chunk_end}
use Rattle.model.specs.Runs.{Module, Event, Run, is_ok}

-- ---- trails

-- the values of a key's lines, latest first
abbrev pub ledger_trail : {K V : Type 0} → Kinds K V → K → List (K × V) → List V
ledger_trail kinds k [] = []
ledger_trail kinds k (l ∷ ls) = cond (bytes_eq (kinds.bytes l.0) (kinds.bytes k)) (l.1 ∷ ledger_trail kinds k ls) (ledger_trail kinds k ls)

module _ {K V : Type 0} (kinds : Kinds K V) (rows : ℕ → List (Row K)) (k : K) where
  -- a row bearing the key comes before the rest by its value, another adds nothing
  abbrev pub AddsBy : Bool → Row K → List V → List V → Type 0
  AddsBy true r rest all = (x : V) × (r.stored ≡ stored_of (kinds.encode x)) × (all ≡ x ∷ rest)
  AddsBy false r rest all = all ≡ rest

  -- the same, by whether the row bears the key
  abbrev pub Adds : Row K → List V → List V → Type 0
  Adds r rest all = AddsBy (bytes_eq (kinds.bytes r.key) (kinds.bytes k)) r rest all

  -- the values of the rows bearing k, met from a place along the next places; a missing row or a next that is not earlier leaves none
  pub data Met : ℕ → ℕ → List V → Type 0 where
    ends : (s p : ℕ) (r : Row K) (all : List V) → row_at (rows s) p ≡ Some r → has_no_next r ≡ true → Adds r [] all → Met s p all
    goes : (s p : ℕ) (r : Row K) (rest all : List V) → row_at (rows s) p ≡ Some r → has_no_next r ≡ false →
        earlier r.next_section r.next_position s p ≡ true → Met r.next_section r.next_position rest → Adds r rest all → Met s p all

  -- from the head of a pair
  abbrev pub MetFrom : Head → List V → Type 0
  MetFrom Vacant all = all ≡ []
  MetFrom (Latest h) all = Met h.section h.position all
  MetFrom Equal all = ⊥

-- the trail of a key: what is met from its pair's head
abbrev pub Trail : {K V : Type 0} → Kinds K V → Numbers → TableMeaning → JournalMeaning K → K → List V → Type 0
Trail kinds v t j k all = MetFrom kinds j.rows k (head_at t.cells (table_index kinds v.table_size k)) all

-- ---- the law

-- what get answers of a trail
abbrev pub first : {V : Type 0} → List V → Option V
first [] = None
first (x ∷ xs) = Some x

-- what has answers of a trail
abbrev pub is_there : {V : Type 0} → List V → Bool
is_there [] = false
is_there (x ∷ xs) = true

-- an index outside the chunk and its image
abbrev pub Outside : Numbers → Option ℕ → ℕ → Type 0
Outside v None i = Unit {0}
Outside v (Some p) i =
    ((i < 2 * p) ⊎ (2 * chunk_end v p ≤ i)) × ((i < 2 * (v.table_size + p)) ⊎ (2 * (v.table_size + chunk_end v p) ≤ i))

module _ {K V : Type 0} (kinds : Kinds K V) where
  -- an open freezer that a run led to
  pub record Led (m : Module K V) (v : Numbers) : Type 0 where
    pub events : List (Event K V)
    pub run : Run kinds events m
    pub freezer : m.freezer ≡ Some v

  -- the law, for two kinds; m is a module, v the numbers of the freezer open in it
  pub record Law : Type 0 where
    -- a key has at most one trail
    pub one_trail : (v : Numbers) (t : TableMeaning) (j : JournalMeaning K) (k : K) (all more : List V) → Trail kinds v t j k all → Trail kinds v t j k more → all ≡ more
    -- 1: every key's trail is the ledger's
    pub trails : (m : Module K V) (v : Numbers) → Led m v → (k : K) → Trail kinds v m.table m.journal k (ledger_trail kinds k m.ledger.lines)
    -- 2: get answers the first of it or none, has whether there is one; neither refuses
    pub gets : (m : Module K V) (v : Numbers) → Led m v → (k : K) → get_answer kinds v m.table m.journal k ≡ Ok (first (ledger_trail kinds k m.ledger.lines))
    pub has : (m : Module K V) (v : Numbers) → Led m v → (k : K) → has_answer kinds v m.table m.journal k ≡ Ok (is_there (ledger_trail kinds k m.ledger.lines))
    -- 3: after every run init is refused for its settings alone, a fresh one also where the store has no room
    pub inits : (es : List (Event K V)) (m : Module K V) → Run kinds es m → (s : Settings) (f : Fault) →
        init_answer kinds s m.latest m.table m.journal ≡ Err f → (fault_number f ≤ 3) ⊎ ((fault_number f ≡ 8) × (m.latest ≡ None))
    -- 4: an accepted sync keeps every trail, and every entry outside the chunk that it works and that chunk's image
    pub sync_trails : (m : Module K V) (v : Numbers) → Led m v → is_ok (sync_answer kinds v m.table m.journal) ≡ true → (k : K) (all : List V) →
        Trail kinds v m.table m.journal k all →
        Trail kinds (sync_numbers v m.table) (apply_all m.table (sync_table v m.table))
        (apply_journal (record_bytes kinds) m.journal (sync_journal kinds v m.table m.journal)) k all
    pub sync_entries : (m : Module K V) (v : Numbers) → Led m v → (i : ℕ) → Outside v (start v m.table) i →
        at (apply_all m.table (sync_table v m.table)).cells i ≡ at m.table.cells i
    -- 5: two runs, over any stores and journals, that end with equal lines have equal trails and answer alike
    pub alike : (m n : Module K V) (v w : Numbers) → Led m v → Led n w → m.ledger.lines ≡ n.ledger.lines → (k : K) →
        ((all : List V) → Trail kinds v m.table m.journal k all → Trail kinds w n.table n.journal k all)
        × (get_answer kinds v m.table m.journal k ≡ get_answer kinds w n.table n.journal k)
        × (has_answer kinds v m.table m.journal k ≡ has_answer kinds w n.table n.journal k)
    -- 6: put is refused with 10 or 11 alone, sync and close with 12 alone
    pub puts : (m : Module K V) (v : Numbers) → Led m v → (fits : Bool) (k : K) (x : V) (f : Fault) →
        put_answer kinds v m.table m.journal fits k x ≡ Err f → (fault_number f ≡ 10) ⊎ (fault_number f ≡ 11)
    pub syncs : (m : Module K V) (v : Numbers) → Led m v → (f : Fault) → sync_answer kinds v m.table m.journal ≡ Err f → fault_number f ≡ 12
    pub closes : (m : Module K V) (v : Numbers) → Led m v → (f : Fault) → close_answer kinds v m.table m.journal ≡ Err f → fault_number f ≡ 12
