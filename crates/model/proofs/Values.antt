-- A value that was stored is read again.
use Rattle.std.proofs.Common.{◌≡◌, ℕ, length, take, Some, Ok}
use Rattle.codec.specs.Kinds.{Kinds, Lawful}
use Rattle.journal.specs.declared.fault.Cursor.{Cursor}
use Rattle.journal.specs.Rows.{Row, JournalMeaning, row_at, stored_bytes, stored_of, value_answer, checked}
use Rattle.journal.proofs.StoredBack.{checked_stored}
use Rattle.journal.proofs.RowsBack.{value_found as found}

module _ {K V : Type 0} (kinds : Kinds K V) (lawful : Lawful kinds) where
  pub checked_back : (c : Cursor) (x : V) → checked kinds.decode c (stored_of (kinds.encode x)) ≡ Ok x
  checked_back c x = checked_stored kinds.decode (kinds.encode x) x (lawful.encodes x) (lawful.decodes x) c

  pub value_found : (j : JournalMeaning K) (s p : ℕ) (r : Row K) (x : V) → row_at (j.rows s) p ≡ Some r → r.stored ≡ stored_of (kinds.encode x) →
      value_answer kinds.decode j (record { section = s; offset = stored_bytes (take p (j.rows s)); size = length r.stored }) ≡ Ok x
  value_found j s p r x q e = found kinds.decode (kinds.encode x) x (lawful.encodes x) (lawful.decodes x) j s p r q e
