-- What the proofs use of a kind of key: its bytes have a width, and decode to it.
use Rattle.std.proofs.Common.{◌≡◌, ℕ, List, length}
use Rattle.std.specs.Int.Digits.{AllBelowBase}
use Rattle.journal.proofs.ReadRecord.{key_back}

module _ {K : Type 0} where
  pub record Kind (bytes : K → List ℕ) (w : ℕ) (decoding : List ℕ → K) : Type 0 where
    pub sized : (k : K) → length (bytes k) ≡ w
    pub back : (k : K) → decoding (bytes k) ≡ k

  -- by the laws of the kind
  pub kind : {bytes : K → List ℕ} {w : ℕ} {decoding : List ℕ → K} → ((k : K) → length (bytes k) ≡ w) → ((k : K) → AllBelowBase 256 (bytes k)) → ((j k : K) → bytes j ≡ bytes k → j ≡ k) →
      ((bs : List ℕ) → length bs ≡ w → AllBelowBase 256 bs → bytes (decoding bs) ≡ bs) → Kind bytes w decoding
  kind sized octets same decoded = record { sized = sized; back = key_back _ _ _ sized octets same decoded }
