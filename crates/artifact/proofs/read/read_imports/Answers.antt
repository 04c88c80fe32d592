use Rattle.bounded.specs.Held.{used}
use Rattle.product.specs.Parts.{rows}
use Rattle.product.specs.declared.interface.Interface.{Interface}
use Rattle.codec.specs.Format.{left, interface}
use Rattle.codec.proofs.Many.{one_more, many_adds}
use Rattle.artifact.proofs.read.read_imports.Goals as goal

pub loop-preserved : goal.loop-preserved
loop-preserved c =
    let is = used c.loop.into in
    let now = used c.add.new.self in
    let x : Interface = record { list = c.read_section.new.into } in (
      one_more is now x c.loop.counter c.in_ok-add.ensures.after c.loop.invariant.0,
      many_adds rows c.in_ok-count.count c.loop.counter interface.get (left c.loop.input) is now _ x (left c.read_section.new.input) c.loop-test.true c.loop.invariant.1 c.in_ok-add.ensures.after c.in_ok-read_section.ensures,
    )
