-- `pvrtc::check::check` meets its contract: a group that refuses speaks, and one that does not leaves it to those after it. Assumes nothing.
use Rattle.std.proofs.Common.{◌≡◌, false, refl, sym, ℕ, List, ◌++◌, Ok}
use Rattle.facts.proofs.Checks.{none_said}
use Rattle.facts.proofs.Said.{at_exit}
use Rattle.facts.specs.Checks.{Check, first_of}
use Rattle.pvrtc.proofs.Groups.{stops, goes_on, one-asked}
use Rattle.pvrtc.specs.declared.Call.{Call}
use Rattle.pvrtc.specs.declared.Picture.{Picture}
use Rattle.pvrtc.specs.Refusals.{large_side, size_checks, data_checks, room_checks, grid_checks, place_checks, checks, Says}
use Rattle.pvrtc.proofs.check.check.Goals as goal

-- what is said from a group on
abbrev placed : Picture → Call → List Check
placed p call = grid_checks p ++ place_checks p call

abbrev roomed : Picture → Call → List Check
roomed p call = room_checks p call ++ placed p call

-- past the sizes no side is large, and what the rest says is said; past the data likewise, and past the room
module _ (p : Picture) (call : Call) (len : ℕ) (sized : Says (Ok tt) (size_checks p)) where
  small : large_side p ≡ false
  small = none_said (size_checks p) tt (sym sized) 2

  past-sizes : (n : ℕ) → n ≡ first_of (data_checks p len ++ roomed p call) → n ≡ first_of (checks p call len)
  past-sizes n e = goes_on (size_checks p) _ tt sized refl e

  module _ (held : Says (Ok tt) (data_checks p len)) where
    past-data : (n : ℕ) → n ≡ first_of (roomed p call) → n ≡ first_of (checks p call len)
    past-data n e = past-sizes n (goes_on (data_checks p len) _ tt held refl e)

    module _ (roomy : Says (Ok tt) (room_checks p call)) where
      past_room : (n : ℕ) → n ≡ first_of (placed p call) → n ≡ first_of (checks p call len)
      past_room n e = past-data n (goes_on (room_checks p call) _ tt roomy refl e)

pub returns-in_err-check_sizes : goal.returns-in_err-check_sizes
returns-in_err-check_sizes c =
    rw (at_exit c.from_residual.ensures) (stops (size_checks c.args.p) _ tt c.in_err-check_sizes.ensures refl)

pub has_short_data-requires : goal.has_short_data-requires
has_short_data-requires c = small c.args.p c.args.call c.args.len c.in_ok-check_sizes.ensures

pub returns-in_err-refuse_if : goal.returns-in_err-refuse_if
returns-in_err-refuse_if c =
    let a = c.args in
    rw (at_exit c.from_residual-in_err-refuse_if.ensures)
    (past-sizes a.p a.call a.len c.in_ok-check_sizes.ensures _
    (stops (data_checks a.p a.len) _ tt (one-asked 3 c.in_err-refuse_if.ensures c.has_short_data.ensures) refl))

pub has_short_image-requires : goal.has_short_image-requires
has_short_image-requires c = small c.args.p c.args.call c.args.len c.in_ok-check_sizes.ensures

pub returns-in_err-refuse_if-2 : goal.returns-in_err-refuse_if-2
returns-in_err-refuse_if-2 c =
    let a = c.args in
    rw (at_exit c.from_residual-in_err-refuse_if-2.ensures)
    (past-data a.p a.call a.len c.in_ok-check_sizes.ensures (one-asked 3 c.in_ok-refuse_if.ensures c.has_short_data.ensures) _
    (stops (room_checks a.p a.call) _ tt (one-asked 4 c.in_err-refuse_if-2.ensures c.has_short_image.ensures) refl))

pub returns-in_err-refuse_if-3 : goal.returns-in_err-refuse_if-3
returns-in_err-refuse_if-3 c =
    let a = c.args in
    rw (at_exit c.from_residual-in_err-refuse_if-3.ensures)
    (past_room a.p a.call a.len c.in_ok-check_sizes.ensures (one-asked 3 c.in_ok-refuse_if.ensures c.has_short_data.ensures)
    (one-asked 4 c.in_ok-refuse_if-2.ensures c.has_short_image.ensures) _
    (stops (grid_checks a.p) _ tt (one-asked 5 c.in_err-refuse_if-3.ensures c.has_no_power.ensures) refl))

pub returns : goal.returns
returns c =
    let a = c.args in
    past_room a.p a.call a.len c.in_ok-check_sizes.ensures (one-asked 3 c.in_ok-refuse_if.ensures c.has_short_data.ensures)
    (one-asked 4 c.in_ok-refuse_if-2.ensures c.has_short_image.ensures) _
    (goes_on (grid_checks a.p) _ tt (one-asked 5 c.in_ok-refuse_if-3.ensures c.has_no_power.ensures) refl (one-asked 6 c.refuse_if-4.ensures c.is_outside.ensures))
