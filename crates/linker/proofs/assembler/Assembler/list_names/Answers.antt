use Rattle.std.proofs.Common.{◌≡◌, ◌<◌, ◌++◌, length, take, is_ok, sym, ap, ◌∙◌, append-nil, arith}
use Rattle.std.specs.Option.{option_to_list}
use Rattle.bounded.specs.Held.{held}
use Rattle.project.specs.Members.{members}
use Rattle.project.specs.Checked.{names}
use Rattle.project.proofs.Listed.{grown}
use Rattle.ledger.specs.Fresh.{in_order}
use Rattle.linker.specs.declared.assembler.Assembler.{Assembler}
use Rattle.linker.proofs.Listing.{names_more, few_names}
use Rattle.linker.proofs.assembler.Assembler.list_names.Goals as goal
use Rattle.linker.proofs.assembler.Assembler.list_names.Goals.{in-Some, in_default}

pub loop-p-preserved : goal.loop-p-preserved
loop-p-preserved c =
    let vs = members c.args.project.now in
    let ps = c.args.places.now in
    let i = c.loop-p.p-index in
    let was = held c.loop-p.self.names in
    let now = held c.match-name.self.names in
    let inv = c.loop-p.invariant in
    elim c.match-name.branch [
      | in-Some w ↦
          let named : now ≡ held w.push.new.self = ap (λ (a : Assembler). held a.names) w.self-is in (
            (λ few.
                let room : length was < 24 = let a = inv.1 in let b = c.loop-p-test.true in omega arith in
                named
                ∙ grown was (held w.push.new.self) (names (in_order vs (take i ps))) w.in-Some.name (is_ok w.push.result) 24 w.push.ensures.fits w.push.ensures.after room (inv.0 few)
                ∙ ap (λ o. names (in_order vs (take i ps)) ++ option_to_list o) w.in-Some.ensures
                ∙ sym (names_more vs ps i c.loop-p-test.true)),
            (let m = ap length named in let f = few_names was (held w.push.new.self) w.in-Some.name (is_ok w.push.result) i w.push.ensures.after inv.1 in omega arith),
          )
      | in_default w ↦
          let named : now ≡ was = ap (λ (a : Assembler). held a.names) w.self-is in (
            (λ few.
                named
                ∙ inv.0 few
                ∙ sym (append-nil (names (in_order vs (take i ps))))
                ∙ ap (λ o. names (in_order vs (take i ps)) ++ option_to_list o) w.in_default.ensures
                ∙ sym (names_more vs ps i c.loop-p-test.true)),
            (let m = ap length named in let a = inv.1 in omega arith),
          )
    ]
