-- `replay::head::read_head` meets its contract. Assumes nothing.
use native.Mathlib.Omega.{arith}
use Rattle.std.specs.Prelude.{◌≤◌, ◌≡◌, Err, length}
use Rattle.forms.specs.Refusals.{refusal_number}
use Rattle.replay.specs.Head.{head_of, timeout_value, timeout_inside, resolution_value, resolution_refused, resolution_inside}
use borrow.Author.Rules.{rules}
use Rattle.replay.proofs.head.read_head.Goals as goal

pub slice_bounds-read_lone_number-count : goal.slice_bounds-read_lone_number-count
slice_bounds-read_lone_number-count c = timeout_inside c.args.bytes.now c.read_lone_number.result c.read_lone_number.ensures _ _ c.in_ok-timeout.was

pub slice_bounds-read_lone_number-start : goal.slice_bounds-read_lone_number-start
slice_bounds-read_lone_number-start c =
    let behind = c.in_ok-timeout.behind in
    let inside : behind ≤ length c.args.bytes.now = timeout_inside c.args.bytes.now c.read_lone_number.result c.read_lone_number.ensures _ _ c.in_ok-timeout.was in
    search rules

pub overflow_add-result : goal.overflow_add-result
overflow_add-result c =
    let inside = resolution_inside c.args.bytes.now c.in_ok-timeout.timeout c.in_ok-timeout.behind c.read_lone_number-2.result c.read_lone_number-2.ensures _ _ c.in_ok-number.was in
    omega arith

pub returns-in_err-number : goal.returns-in_err-number
returns-in_err-number c =
    let why = c.in_err-number.field-0.0 in
    let refused : Err (refusal_number why) ≡ head_of c.args.bytes.now = timeout_value c.args.bytes.now c.read_lone_number.result c.read_lone_number.ensures _ _ _ c.in_ok-timeout.was
    (resolution_refused c.args.bytes.now c.in_ok-timeout.timeout c.in_ok-timeout.behind c.read_lone_number-2.result c.read_lone_number-2.ensures why c.in_err-number.was) in
    search rules

pub returns : goal.returns
returns c =
    timeout_value c.args.bytes.now c.read_lone_number.result c.read_lone_number.ensures _ _ _ c.in_ok-timeout.was
    (resolution_value c.args.bytes.now _ _ c.read_lone_number-2.result c.read_lone_number-2.ensures _ _ _ c.in_ok-number.was c.resolution_from.ensures)
