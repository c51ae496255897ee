-- The worked cases of heads and slots, and that the chosen slot never holds the head of the epochs before.
use Rattle.std.proofs.Common.{◌≡◌, ℕ, ◌≤◌, Bool, true, false, cond, ltb, sym, refl, ap, ◌∙◌, arith}
use Rattle.std.proofs.lemmas.Bool.Decides.{nat_tests}
use Rattle.table.specs.declared.entry.Entry.{Entry}
use Rattle.table.specs.Entries.{empty, is_empty, head, of_epoch, slot}
use Rattle.table.proofs.Wholes.{empty_is}
use Rattle.table.specs.Choices.{below, head_below, WrittenUpto, Spares, SlotCases, HeadCases, Choices}

-- ---- the worked cases

slots : (s p a s' p' a' : ℕ) → SlotCases s p a s' p' a'
slots s p a s' p' a' = record { older_first = refl; older_second = refl; same_first = refl; same_second = refl }

heads : (s p a s' p' a' : ℕ) (e : Entry) → HeadCases s p a s' p' a' e
heads s p a s' p' a' e = record {
  refused = grind (arith, nat_tests);
  first_fails = λ h. grind (arith, nat_tests);
  second_fails = λ h. grind (arith, nat_tests);
}

-- ---- the choice

-- by the tests of the slot choice, in their order
chosen : (P : ℕ → Type 0) (x y z w v : Bool) → (x ≡ true → P 0) → (x ≡ false → y ≡ true → P 1) → (z ≡ true → P 0) → (w ≡ true → P 1) →
    (x ≡ false → y ≡ false → z ≡ false → w ≡ false → v ≡ true → P 0) → (x ≡ false → y ≡ false → z ≡ false → w ≡ false → v ≡ false → P 1) →
    P (cond x 0 (cond y 1 (cond z 0 (cond w 1 (cond v 0 1)))))
chosen P true y z w v f g h k m n = f refl
chosen P false true z w v f g h k m n = g refl refl
chosen P false false true w v f g h k m n = h refl
chosen P false false false true v f g h k m n = k refl
chosen P false false false false true f g h k m n = m refl refl refl refl refl
chosen P false false false false false f g h k m n = n refl refl refl refl refl

below_empty : (e : ℕ) → below e empty ≡ empty
below_empty e = grind (arith, nat_tests)

-- an entry of epoch e does not count below e
below_same : (e : ℕ) (x : Entry) → of_epoch e x ≡ true → below e x ≡ empty
below_same e x h = grind (arith, nat_tests)

-- another entry up to e does
below_other : (e : ℕ) (x : Entry) → x.epoch ≤ e → is_empty x ≡ false → of_epoch e x ≡ false → below e x ≡ x
below_other e x l h f = grind (arith, nat_tests)

spared : (e : ℕ) (a b : Entry) → WrittenUpto e a b → Spares e a b (slot e a b)
spared e a b p =
    chosen (Spares e a b) (of_epoch e a) (of_epoch e b) (is_empty a) (is_empty b) (ltb a.epoch b.epoch)
    (λ h. ap (λ x. head x (below e b)) (below_empty e ∙ sym (below_same e a h)))
    (λ _ h. ap (head (below e a)) (below_empty e ∙ sym (below_same e b h)))
    (λ h. ap (λ x. head_below e x b) (sym (empty_is a h)))
    (λ h. ap (head_below e a) (sym (empty_is b h)))
    (λ x y z w v. rw (below_empty e, below_other e a p.first_epoch z x, below_other e b p.second_epoch w y) (grind (arith, nat_tests)))
    (λ x y z w v. rw (below_empty e, below_other e a p.first_epoch z x, below_other e b p.second_epoch w y) (grind (arith, nat_tests, p.differ)))

pub choices : Choices
choices = record { slots = slots; heads = heads; spares = spared }
