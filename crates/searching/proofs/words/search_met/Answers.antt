use Prim.Native.Nat.{ℕ}
use mathlib.Core.Path.{ap, ◌∙◌}
use native.Mathlib.Omega.{arith}
use lib.ListN.{replicate, length-replicate}
use Rattle.token.proofs.Handed.{handed}
use Rattle.list.proofs.Sets.{none_in, all_listed}
use Rattle.searching.specs.Searching.{as_searched}
use Rattle.searching.proofs.Searching.{room_short_lem, all_written, bits_room, find_wrong, find_done, entries-room, entries-written}
use Rattle.searching.proofs.words.search_met.Goals as goal

pub find-requires : goal.find-requires
find-requires c =
    (omega (arith, length-replicate {A = ℕ} 8192 255, bits_room c.args.book.lines c.requires), omega (arith, length-replicate {A = ℕ} 8192 0, bits_room c.args.book.lines c.requires), none_in 8192)

pub returns-in_err-met : goal.returns-in_err-met
returns-in_err-met c =
    ap (λ r. (as_searched r, c.args.list.now)) (handed _ _ c.from_residual.ensures.1)
    ∙ find_wrong _ _ _ _ (replicate 8192 255) (all_listed 8192 _ (bits_room _ c.requires)) _ c.find.ensures.found c.args.list.now _ c.in_err-met.was

pub returns-then-short : goal.returns-then-short
returns-then-short c =
    let met = find_done _ _ _ _ (replicate 8192 255) (all_listed 8192 _ (bits_room _ c.requires)) _ c.find.ensures.found c.in_ok-met.was in
    room_short_lem _ _ _ _ _ met.0 met.1 c.if-short.true

pub write_entries-requires : goal.write_entries-requires
write_entries-requires c = (
  c.requires,
  omega (arith, c.find.ensures.kept.long, length-replicate {A = ℕ} 8192 0, bits_room c.args.book.lines c.requires),
  entries-room _ _ _ _ (replicate 8192 255) (all_listed 8192 _ (bits_room _ c.requires)) _ c.find.ensures.found c.in_ok-met.was c.find.ensures.kept c.args.list.now c.if-short.false,
)

pub returns : goal.returns
returns c =
    let met = find_done _ _ _ _ (replicate 8192 255) (all_listed 8192 _ (bits_room _ c.requires)) _ c.find.ensures.found c.in_ok-met.was in
    all_written _ _ _ _ _ met.0 met.1 c.if-short.false _
    (entries-written _ _ _ _ (replicate 8192 255) (all_listed 8192 _ (bits_room _ c.requires)) _ c.find.ensures.found c.in_ok-met.was c.find.ensures.kept _ _ c.write_entries.ensures)
