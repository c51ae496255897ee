-- Words that every call uses: tests in their order, ranges, pairs.
use Rattle.std.specs.Prelude.{ℕ, zero, suc, ◌+◌, ◌-◌, ◌*◌, ◌%◌, ◌^◌, Bool, true, false, cond, ◌&&◌, ◌||◌, List, [], ◌++◌, length, Some, None, Ok, Err, Option, Result, ◌==◌, count_ones, nat_le, nat_lt}
use Rattle.crc32c.specs.Crc.{crc}
use Rattle.codec.specs.Kinds.{Kinds}
use Rattle.table.specs.declared.entry.Entry.{Entry}
use Rattle.table.specs.declared.fault.TableFault.TheVariants.{PastEnd}
use Rattle.table.specs.declared.pair.Head.{Head}
use Rattle.table.specs.declared.pair.Head.TheVariants.{Vacant, Latest, Equal}
use Rattle.table.specs.Entries.{head}
use Rattle.table.specs.Store.{TableMeaning, slot_0, slot_1}
use Rattle.journal.specs.declared.fault.JournalFault.{JournalFault}
use Rattle.model.specs.declared.Fault.{Fault}
use Rattle.model.specs.declared.Fault.TheVariants.{EqualEpochs, Table, Journal}
use Rattle.journal.specs.Places.{ones_8}

-- ---- tests in their order

-- a fault where a test holds
abbrev pub refuse : Bool → Fault → Option Fault
refuse b f = cond b (Some f) None

-- the first fault of two
abbrev pub ◌then◌ : Option Fault → Option Fault → Option Fault
◌then◌ (Some f) g = Some f
◌then◌ None g = g

infixr 20 ◌then◌
-- the journal's own fault, whole
abbrev pub of_journal : Option JournalFault → Option Fault
of_journal None = None
of_journal (Some f) = Some (Journal f)

-- what is so where a call is refused, and where not
abbrev pub unless : {A : Type 0} → Option Fault → A → A → A
unless (Some f) refused done = refused
unless None refused done = done

-- what a call answers, by its fault
abbrev pub answered : {A : Type 0} → Option Fault → A → Result A Fault
answered (Some f) a = Err f
answered None a = Ok a

-- ---- ranges

-- what f gives at each number below n, in rising order
abbrev pub each : {A : Type 0} → ℕ → (ℕ → List A) → List A
each zero f = []
each (suc n) f = each n f ++ f n

-- how many below n pass
abbrev pub count : ℕ → (ℕ → Bool) → ℕ
count zero f = 0
count (suc n) f = count n f + cond (f n) 1 0

-- the first of two
abbrev pub or_else : Option ℕ → Option ℕ → Option ℕ
or_else (Some i) o = Some i
or_else None o = o

-- the lowest below n that passes
abbrev pub lowest : ℕ → (ℕ → Bool) → Option ℕ
lowest zero f = None
lowest (suc n) f = or_else (lowest n f) (cond (f n) (Some n) None)

-- ---- numbers

-- the largest number of 8 bytes
abbrev pub last : ℕ
last = ones_8

-- just one of its bits is 1
abbrev pub power_of_two : ℕ → Bool
power_of_two n = count_ones n == 1

-- the due count stops at 2 ^ 32 - 1
abbrev pub raised : Bool → ℕ → ℕ
raised b due = cond (b && nat_lt due (2 ^ 32 - 1)) (due + 1) due

-- is one place earlier than another, section first
abbrev pub earlier : ℕ → ℕ → ℕ → ℕ → Bool
earlier s p section position = nat_lt s section || (s == section && nat_lt p position)

-- ---- pairs

-- the check of a key's bytes
unfoldable pub hash : List ℕ → ℕ
hash bytes = crc bytes

-- the pair of a key
abbrev pub table_index : {K V : Type 0} → Kinds K V → ℕ → K → ℕ
table_index kinds size k = hash (kinds.bytes k) % size

-- two whole entries of one epoch
abbrev pub is_equal : Head → Bool
is_equal Vacant = false
is_equal (Latest h) = false
is_equal Equal = true

-- has the head added at least the frequency
abbrev pub is_due : ℕ → Head → Bool
is_due frequency Vacant = false
is_due frequency (Latest h) = nat_le frequency h.added
is_due frequency Equal = false

-- the head of pair i
abbrev pub head_at : List Entry → ℕ → Head
head_at cells i = head (slot_0 cells i) (slot_1 cells i)

-- 19: an entry past the store's end
abbrev pub past_end : TableMeaning → ℕ → Option Fault
past_end t i = refuse (nat_le (length t.cells) i) (Table (PastEnd i))

-- 9
abbrev pub equal_at : Option ℕ → Option Fault
equal_at None = None
equal_at (Some i) = Some (EqualEpochs i)

-- 19, 9 where one pair is read
abbrev pub pair_past : TableMeaning → ℕ → Option Fault
pair_past t i = past_end t (2 * i) then past_end t (2 * i + 1)

-- 9 where one pair is read
abbrev pub pair_equal : TableMeaning → ℕ → Option Fault
pair_equal t i = refuse (is_equal (head_at t.cells i)) (EqualEpochs i)
