-- What reading standard input gives, and what the program makes of it. Assumes nothing: these are definitions.
use Rattle.std.specs.Prelude.{◌≡◌, List, ℕ, zero, suc, ◌<◌, ◌≤◌, ◌⊎◌, Result, Ok, Err, Option, None, Some, length, take}
use Rattle.std.specs.Io.KnownBytes.{Consumes, Keeps, IsAtEnd}
use Rattle.convert.specs.Output.{output, read_limit}
use Rattle.plate.specs.declared.Failure.{Failure}
use Rattle.plate.specs.declared.Failure.TheVariants.{Unread, Unwritten}

-- The failure is that of a read.
abbrev pub IsUnread : Failure → Type 0
IsUnread Unread = Unit {0}
IsUnread Unwritten = ⊥

-- What an answer of std's `read` means: so many bytes; 0, the end of the input; an error, a failure.
abbrev pub meant : {E : Type 0} → Result ℕ E → Result (Option ℕ) Failure
meant (Ok zero) = Ok None
meant (Ok (suc n)) = Ok (Some (suc n))
meant (Err e) = Err Unread

-- One read into `len` bytes gave at least one, and no more than these; or the input has ended, or the read failed.
abbrev pub Within : Result (Option ℕ) Failure → (len : ℕ) → Type 0
Within (Ok (Some n)) len = (0 < n) × (n ≤ len)
Within (Ok None) len = Unit {0}
Within (Err f) len = IsUnread f

-- What one read took of what was left to read, where that is known: the bytes that it gave, which stand in front of `bytes`. At the end nothing was
-- left, and a read that failed took nothing.
abbrev pub Took : (old new : Option (List ℕ)) → (bytes : List ℕ) → Result (Option ℕ) Failure → Type 0
Took old new bytes (Ok (Some n)) = Consumes old new (take n bytes)
Took old new bytes (Ok None) = Keeps old new × IsAtEnd new
Took old new bytes (Err f) = Keeps old new

-- After so many bytes, reading stopped: the read limit is reached, or else the input has ended, and nothing is left to read.
abbrev pub Stopped : (count : ℕ) → (left : Option (List ℕ)) → Type 0
Stopped count left = (count ≡ read_limit) ⊎ ((count ≤ read_limit) × IsAtEnd left)

-- These bytes are a file's: its first ones, as many as the read limit, or all of it.
abbrev pub came : (bytes file : List ℕ) → Type 0
came bytes file = bytes ≡ take read_limit file

-- The program's answer to the bytes that were read: r bytes of `out`, which are the output for whatever file the bytes are of.
pub record Answers (bytes out : List ℕ) (r : ℕ) : Type 0 where
  pub inside : r ≤ length out
  pub is : (file : List ℕ) → came bytes file → take r out ≡ output file

-- Where reading failed, the writer is as it was: nothing was written.
abbrev pub KeptIfUnread : {W : Type 0} → (old new : W) → Failure → Type 0
KeptIfUnread old new Unread = new ≡ old
KeptIfUnread old new Unwritten = Unit {0}
