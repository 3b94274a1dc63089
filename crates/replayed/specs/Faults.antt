-- What a file is refused for, brought into it, and how a listing names it. Assumes nothing: these are definitions.
use Rattle.std.specs.Prelude.{List, ℕ}
use Rattle.samples.specs.File.{with_u32}
use Rattle.replayed.specs.declared.fault.Fault.{Fault}
use Rattle.replayed.specs.declared.fault.Fault.TheVariants as fault

-- A file's bytes with the header's field that is wrong whatever else the file says, or as they were where there is no such field.
abbrev pub brought : Fault → List ℕ → List ℕ
brought fault.ZeroSide old = old
brought fault.LargeSide old = old
brought fault.ShortData old = old
brought fault.ShortImage old = old
brought fault.NotPowerOfTwo old = old
brought fault.ShortPvrHeader old = old
brought fault.NotPvr old = with_u32 0 55727616 old
brought fault.UnknownPvrFormat old = with_u32 8 4 old
brought fault.DepthNotOne old = with_u32 32 2 old
brought fault.SurfacesNotOne old = with_u32 36 2 old
brought fault.FacesNotOne old = with_u32 40 6 old
brought fault.NoLevel old = old
brought fault.UnknownFlags old = with_u32 4 1 old
brought fault.NoSuchLevel old = old
brought fault.TooManyLevels old = old
brought fault.MuchSkipped old = old
brought fault.LongSide old = old
brought fault.LargeNeed old = old
brought fault.ShortKtxHeader old = old
brought fault.NotKtx old = with_u32 4 3140497952 old
brought fault.OtherByteOrder old = with_u32 12 16909060 old
brought fault.UnknownKtxFormat old = with_u32 28 35844 old
brought fault.NotOnePlate old = with_u32 52 6 old
brought fault.OtherSize old = old
brought fault.CutShort old = old
brought fault.CutBeforeLevel old = old

-- The documents' number, by which a listing names it; 137 is the 37 for an asked level.
abbrev pub number_of : Fault → ℕ
number_of fault.ZeroSide = 1
number_of fault.LargeSide = 2
number_of fault.ShortData = 3
number_of fault.ShortImage = 4
number_of fault.NotPowerOfTwo = 5
number_of fault.ShortPvrHeader = 11
number_of fault.NotPvr = 12
number_of fault.UnknownPvrFormat = 13
number_of fault.DepthNotOne = 14
number_of fault.SurfacesNotOne = 15
number_of fault.FacesNotOne = 16
number_of fault.NoLevel = 17
number_of fault.UnknownFlags = 18
number_of fault.NoSuchLevel = 19
number_of fault.TooManyLevels = 20
number_of fault.MuchSkipped = 21
number_of fault.LongSide = 22
number_of fault.LargeNeed = 23
number_of fault.ShortKtxHeader = 31
number_of fault.NotKtx = 32
number_of fault.OtherByteOrder = 33
number_of fault.UnknownKtxFormat = 34
number_of fault.NotOnePlate = 35
number_of fault.OtherSize = 36
number_of fault.CutShort = 37
number_of fault.CutBeforeLevel = 137
