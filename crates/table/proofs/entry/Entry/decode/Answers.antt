use Rattle.std.proofs.Common.{◌≡◌, ℕ, List, ◌++◌, length, take, drop, refl, ◌∙◌, arith}
use Rattle.std.proofs.lemmas.List.{take_all}
use Rattle.codec.proofs.Pieces.{joined_on}
use Rattle.table.proofs.entry.Entry.decode.Goals as goal

-- 29 bytes are their parts
entry_parts : (bs a b c d e : List ℕ) → length bs ≡ 29 → a ≡ take 8 bs → b ≡ take 8 (drop 8 bs) → c ≡ take 8 (drop 16 bs) → d ≡ take 1 (drop 24 bs) → e ≡ take 4 (drop 25 bs) → (((a ++ b) ++ c) ++ d) ++ e ≡ bs
entry_parts bs a b c d e l ha hb hc hd he =
    joined_on 25 4 29 bs _ e refl (joined_on 24 1 25 bs _ d refl (joined_on 16 8 24 bs _ c refl (joined_on 8 8 16 bs a b refl ha hb) hc) hd) he
    ∙ take_all 29 bs (omega arith)

pub returns-clause-back : goal.returns-clause-back
returns-clause-back c = entry_parts c.args.from.now _ _ _ _ _ c.requires c.take.ensures.back c.take-2.ensures.back c.take-3.ensures.back c.take-4.ensures.back c.take-5.ensures.back
