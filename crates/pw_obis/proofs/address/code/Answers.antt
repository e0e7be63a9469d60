use Rattle.std.proofs.Common.{◌∙◌, sym}
use Rattle.pw_obis.proofs.OneCode.{same_parts}
use Rattle.pw_obis.proofs.address.code.Goals as goal

pub returns-in_err-c : goal.returns-in_err-c
returns-in_err-c c = rw c.from_residual.ensures λ code x.
    let p = same_parts c.args.address.now code c.group_before-a.result.0 c.group_before-b.result.0 c.group_before-c.result.0
    c.group_before-a.result.1.now c.group_before-b.result.1.now c.group_before-c.result.1.now
    c.group_before-a.ensures c.group_before-b.ensures c.group_before-c.ensures x in
    let none = rw c.in_err-c.is at c.branch-c.ensures in
    let impossible = sym none ∙ p.c_same in
    cc

pub returns-in_err-d : goal.returns-in_err-d
returns-in_err-d c = rw c.from_residual-in_err-d.ensures λ code x.
    let p = same_parts c.args.address.now code c.group_before-a.result.0 c.group_before-b.result.0 c.group_before-c.result.0
    c.group_before-a.result.1.now c.group_before-b.result.1.now c.group_before-c.result.1.now
    c.group_before-a.ensures c.group_before-b.ensures c.group_before-c.ensures x in
    c.in_err-d.ensures.none code.d code.e code.f p.rest_is
