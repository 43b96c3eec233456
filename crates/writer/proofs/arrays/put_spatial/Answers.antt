use Rattle.writer.proofs.SignWrites.{spatial_put}
use Rattle.writer.proofs.arrays.put_spatial.Goals as goal

pub returns : goal.returns
returns c =
    let a = c.args in
    spatial_put a.set a.code a.x a.y c.requires.1.0.0 c.put_symbol-next.ensures c.put_point.ensures
