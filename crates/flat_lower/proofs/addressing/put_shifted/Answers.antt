use Rattle.std.proofs.Common.{sym}
use Rattle.flat_lower.proofs.Emits.{two, turned}
use Rattle.flat_lower.proofs.EmitAddresses.{shifted}
use Rattle.flat_lower.proofs.addressing.put_shifted.Goals as goal

pub returns : goal.returns
returns c =
    let e = shifted c.args.shift c.args.places.now c.args.place c.args.to c.args.x c.requires in
    turned _ _ (sym e) (two c.in_ok-put_let.ensures c.in_ok-put_based.ensures)
