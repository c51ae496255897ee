use Rattle.std.proofs.Common.{◌≡◌, map, None, ap, ◌∙◌, rules}
use Rattle.std.specs.Option.{option_map}
use Rattle.std.proofs.lemmas.Iterator.{items_from_drains}
use Rattle.journal.specs.Flat.{sections_from}
use Rattle.journal.specs.Log.{row_shown}
use Rattle.journal.proofs.Turns.{rows_come}
use Rattle.log_journal.specs.Kept.{kept_row, rows_in, section_in}
use Rattle.log_journal.proofs.Sections.{above, highest_is}
use Rattle.log_journal.proofs.Walks.{last_seen}
use Rattle.log_journal.proofs.walk.highest.Goals as goal

pub returns : goal.returns
returns g c =
    let w = g.K.Key.WIDTH in
    let d = g.K.DecodedKey.decoding in
    let log = c.args.log.now in
    let (xs, ran, is) = c.last.ensures.ran in
    let all : map row_shown xs ≡ rows_in w log = items_from_drains xs (ran.1.0, ran.1.1, λ _. (ran.0, ran.1.2)) (rows_come w (rows_in w log) c.new.ensures.left) in
    let last : c.map.result ≡ option_map (λ v. v.section) c.last.result = search rules in
    highest_is c.map.result _ (ap above (last ∙ ap (option_map (λ v. v.section)) is) ∙ last_seen d None xs ∙ ap (sections_from section_in (kept_row d) 0) all)
