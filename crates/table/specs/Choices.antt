-- Worked cases of heads and slots, and what the choice of a slot spares.
use Rattle.std.specs.Prelude.{◌≡◌, ℕ, ◌≤◌, true, false, cond, ◌==◌, ◌≢◌, nat_lt}
use Rattle.table.specs.declared.entry.Entry.{Entry}
use Rattle.table.specs.declared.pair.Head.{Head}
use Rattle.table.specs.declared.pair.Head.TheVariants.{Latest, Equal}
use Rattle.table.specs.Entries.{entry, empty, failing, whole, head, slot}

-- ---- worked cases, whatever the entries hold beside their epochs

-- the slot to write epoch 6 to
pub record SlotCases (s p a s' p' a' : ℕ) : Type 0 where
  pub older_first : slot 6 (entry 4 s p a) (entry 5 s' p' a') ≡ 0
  pub older_second : slot 6 (entry 5 s p a) (entry 4 s' p' a') ≡ 1
  pub same_first : slot 6 (entry 6 s p a) (entry 5 s' p' a') ≡ 0
  pub same_second : slot 6 empty (entry 6 s' p' a') ≡ 1

-- two whole entries of epoch 5 have no head; with one of them failing the other is it
pub record HeadCases (s p a s' p' a' : ℕ) (e : Entry) : Type 0 where
  pub refused : head (entry 5 s p a) (entry 5 s' p' a') ≡ Equal
  pub first_fails : failing e ≡ true → head e (entry 5 s p a) ≡ Latest (entry 5 s p a)
  pub second_fails : failing e ≡ true → head (entry 5 s p a) e ≡ Latest (entry 5 s p a)

-- ---- the choice spares the head of the epochs before

-- an entry of an epoch below e; another counts as empty
abbrev pub below : ℕ → Entry → Entry
below e x = cond (nat_lt x.epoch e) x empty

-- the head among the epochs below e
abbrev pub head_below : ℕ → Entry → Entry → Head
head_below e a b = head (below e a) (below e b)

-- what a pair holds while epoch e is written: whole or empty entries, of different epochs up to e
pub record WrittenUpto (e : ℕ) (a b : Entry) : Type 0 where
  pub first : failing a ≡ false
  pub second : failing b ≡ false
  pub first_epoch : a.epoch ≤ e
  pub second_epoch : b.epoch ≤ e
  pub differ : whole a ≡ true → whole b ≡ true → a.epoch ≢ b.epoch

-- whatever becomes of a slot, the head among the epochs below e stands in the other
abbrev pub Spares : ℕ → Entry → Entry → ℕ → Type 0
Spares e a b s = head_below e (cond (s == 0) empty a) (cond (s == 0) b empty) ≡ head_below e a b

-- the cases, and the law of the choice
pub record Choices : Type 0 where
  pub slots : (s p a s' p' a' : ℕ) → SlotCases s p a s' p' a'
  pub heads : (s p a s' p' a' : ℕ) (e : Entry) → HeadCases s p a s' p' a' e
  -- the slot chosen for epoch e never holds the head among the epochs below e
  pub spares : (e : ℕ) (a b : Entry) → WrittenUpto e a b → Spares e a b (slot e a b)
