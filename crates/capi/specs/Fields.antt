-- What C can ask of a plate in a file, whatever kind of file it is. Assumes nothing: these are definitions.
use Rattle.std.specs.Prelude.{ℕ}
use Rattle.files.specs.Fields.{bits_of}
use Rattle.pvr.specs.declared.Plate.{Plate as PvrPlate}
use Rattle.ktx.specs.declared.Plate.{Plate as KtxPlate}
use Rattle.levels.specs.declared.Level.{Level}
use Rattle.capi.specs.declared.Fields.{Fields}
use Rattle.capi.specs.Plate.{sized_field}

-- A field by its number: 1 width, 2 height, 3 bits a texel, 4 where the bytes start, 5 the size; any other is 0.
abbrev pub value : Fields → ℕ → ℕ
value f field = sized_field f.width f.height (bits_of f.is2bpp) f.start f.size field

-- A PVR file says no size.
abbrev pub of_pvr : PvrPlate → Fields
of_pvr p = record { width = p.width; height = p.height; is2bpp = p.is2bpp; start = p.payload; size = 0 }

abbrev pub of_ktx : KtxPlate → Fields
of_ktx p = record { width = p.width; height = p.height; is2bpp = p.is2bpp; start = p.payload; size = p.size }

-- Of a level, the size is its need.
abbrev pub of_level : Level → Fields
of_level l = record { width = l.width; height = l.height; is2bpp = l.is2bpp; start = l.start; size = l.need }
