use mathlib.Core.Path.{sym}
use Rattle.query.proofs.Openings.{was_ok, was_err, opens_t, opens_a, opens_bare, prefixed_it}
use Rattle.query.proofs.Prefixes.{prefix_present, prefix_free}
use Rattle.query.proofs.words.prefix_into.Goals as goal

pub returns-then-is_ok : goal.returns-then-is_ok
returns-then-is_ok c =
    let t = was_ok _ (sym c.if-is_ok.ensures.value) in
    prefix_present c.args.edition _ _ c.requires.1 (opens_t c.args.edition _ c.requires.0.room _ _ c.byte_at.ensures t.1) _ c.no_items.ensures

pub prefix_items_into-requires : goal.prefix_items_into-requires
prefix_items_into-requires c =
    let t = was_err _ (sym c.if-is_ok.ensures.value) in
    let a = was_ok _ (sym c.if-is_ok-2.ensures.value) in
    (prefixed_it c.args.edition _ c.requires.0 (opens_a c.args.edition _ c.requires.0.room _ _ c.byte_at.ensures t.1 _ _ c.byte_at-2.ensures a.1), c.requires.1)

pub returns : goal.returns
returns c =
    let t = was_err _ (sym c.if-is_ok.ensures.value) in
    let a = was_err _ (sym c.if-is_ok-2.ensures.value) in
    prefix_free c.args.edition _ _ c.requires.1 c.requires.0 (opens_bare c.args.edition _ c.requires.0.room _ _ c.byte_at.ensures t.1 _ _ c.byte_at-2.ensures a.1) _ c.no_items-2.ensures
