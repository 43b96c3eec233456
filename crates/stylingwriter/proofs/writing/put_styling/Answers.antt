use Rattle.stylinggrammar.specs.Styling.{background, detail, two_digits}
use Rattle.stylinggrammar.specs.Record.{styling_in}
use Rattle.stylingwriter.specs.Held.{colour_of, detail_of}
use Rattle.stylingwriter.proofs.PieceWrites.{given_put, zoom_put, styling_put}
use Rattle.stylingwriter.proofs.writing.put_styling.Goals as goal

pub returns : goal.returns
returns c =
    styling_put (styling_in c.args.w.now) c.put_byte-dash.ensures c.put_colorize-colorize.ensures.wrote
    (given_put two_digits 80 (λ n. n.value) _ c.padding.ensures c.put_given-padding.ensures.wrote)
    (given_put background 71 colour_of _ c.background.ensures c.put_given-background.ensures.wrote)
    (given_put detail 68 detail_of _ c.detail.ensures c.put_given-detail.ensures.wrote)
    (zoom_put (λ z. z.hundredths) _ c.zoom.ensures c.put_given-zoom.ensures.wrote)
    c.put_symbols.ensures
