use Rattle.report.proofs.Splitting.{DictionaryAt, line_ended, no_dictionary}
use Rattle.report.proofs.dictionary_in.Goals as goal
use Rattle.report.proofs.dictionary_in.Goals.{else-end-input, then-end-input}

pub slice_bounds-result-count : goal.slice_bounds-result-count
slice_bounds-result-count c =
    let start : DictionaryAt c.args.input.now c.if-end-input.start = (elim c.if-end-input.branch [ then-end-input w ↦ rw w.start-is (line_ended _ _ c.line_end-end.ensures w.if-end-input.true) | else-end-input w ↦ rw w.start-is (no_dictionary _ _ c.line_end-end.ensures w.if-end-input.false) ]) in
    start.within

pub slice_bounds-result-start : goal.slice_bounds-result-start
slice_bounds-result-start c =
    let start : DictionaryAt c.args.input.now c.if-end-input.start = (elim c.if-end-input.branch [ then-end-input w ↦ rw w.start-is (line_ended _ _ c.line_end-end.ensures w.if-end-input.true) | else-end-input w ↦ rw w.start-is (no_dictionary _ _ c.line_end-end.ensures w.if-end-input.false) ]) in
    start.within

pub returns : goal.returns
returns c =
    let start : DictionaryAt c.args.input.now c.if-end-input.start = (elim c.if-end-input.branch [ then-end-input w ↦ rw w.start-is (line_ended _ _ c.line_end-end.ensures w.if-end-input.true) | else-end-input w ↦ rw w.start-is (no_dictionary _ _ c.line_end-end.ensures w.if-end-input.false) ]) in
    start.dictionary
