-- Empty, whole and failing entries.
use Rattle.std.proofs.Common.{◌≡◌, ℕ, ◌<◌, true, false, arith}
use Rattle.std.proofs.lemmas.Bool.Decides.{nat_tests}
use Rattle.table.specs.declared.entry.Entry.{Entry}
use Rattle.table.specs.Entries.{entry, empty, is_empty, whole, failing}

pub entry_nonempty : (e s p a : ℕ) → 0 < e → is_empty (entry e s p a) ≡ false
entry_nonempty e s p a h = grind (arith, nat_tests)

pub entry_whole : (e s p a : ℕ) → 0 < e → whole (entry e s p a) ≡ true
entry_whole e s p a h = grind (arith, nat_tests)

pub whole_nonempty : (a : Entry) → whole a ≡ true → is_empty a ≡ false
whole_nonempty a h = grind (arith, nat_tests)

pub whole_failing : (a : Entry) → whole a ≡ true → failing a ≡ false
whole_failing a h = grind (arith, nat_tests)

pub failing_whole : (a : Entry) → failing a ≡ true → whole a ≡ false
failing_whole a h = grind (arith, nat_tests)

-- neither empty nor failing
pub sound_whole : (e : Entry) → is_empty e ≡ false → failing e ≡ false → whole e ≡ true
sound_whole e h f = grind (arith, nat_tests)

pub empty_is : (e : Entry) → is_empty e ≡ true → e ≡ empty
empty_is e h = grind (arith, nat_tests)
