-- The letters of an info (document 01, 'The section', Info): which are listed, how many target numbers each has, what an
-- unlisted one reads as, and what the record's limits ('Flat record') allow.
use Rattle.std.specs.Prelude.{ℕ, Bool, false, ◌||◌, List, [], ◌∷◌, eqb, ltb}
use Rattle.base.specs.Choice.{pick}
use Rattle.base.specs.Number.{val}
use Rattle.bflan.specs.declared.letters.AnimInfoType.{AnimInfoType}
use Rattle.bflan.specs.declared.letters.AnimInfoType.TheVariants.{Standard, ExtendedUserData, Invalid}

-- ---- the listed letters

-- letters, as the number that their four bytes are, and how many target numbers they have
pub record Listing : Type 0 where
  pub code : ℕ
  pub count : ℕ

abbrev pub listing : ℕ → ℕ → ℕ → ℕ → ℕ → Listing
listing a b c d n = record { code = val (a ∷ b ∷ c ∷ d ∷ []); count = n }

-- in the document's order, by the four letters' ASCII codes
unfoldable pub listings : List Listing
listings =
    listing 0x46 0x4C 0x43 0x43 16  -- FLCC
    ∷ listing 0x46 0x4C 0x43 0x54 2  -- FLCT
    ∷ listing 0x46 0x4C 0x50 0x41 10  -- FLPA
    ∷ listing 0x46 0x4C 0x56 0x43 17  -- FLVC
    ∷ listing 0x46 0x4C 0x56 0x49 1  -- FLVI
    ∷ listing 0x46 0x4C 0x44 0x53 19  -- FLDS
    ∷ listing 0x46 0x4C 0x4D 0x54 5  -- FLMT
    ∷ listing 0x46 0x4C 0x50 0x53 52  -- FLPS
    ∷ listing 0x46 0x4C 0x57 0x4E 4  -- FLWN
    ∷ listing 0x46 0x53 0x4D 0x41 1  -- FSMA
    ∷ listing 0x46 0x4C 0x41 0x43 1  -- FLAC
    ∷ listing 0x46 0x4C 0x46 0x53 7  -- FLFS
    ∷ listing 0x46 0x4C 0x49 0x4D 3  -- FLIM
    ∷ listing 0x46 0x4C 0x4D 0x43 28  -- FLMC
    ∷ listing 0x46 0x4C 0x54 0x53 5  -- FLTS
    ∷ listing 0x46 0x4C 0x54 0x50 1  -- FLTP
    ∷ listing 0x46 0x54 0x42 0x52 7  -- FTBR
    ∷ listing 0x46 0x56 0x47 0x41 1  -- FVGA
    ∷ []

-- FLEU
unfoldable pub fleu : ℕ
fleu = val (0x46 ∷ 0x4C ∷ 0x45 ∷ 0x55 ∷ [])

-- ---- what letters say of their info

-- by the rows, and where none has the letters, as `other` says
abbrev pub kind_in : List Listing → AnimInfoType → ℕ → AnimInfoType
kind_in [] other l = other
kind_in (r ∷ rs) other l = pick (eqb l r.code) (Standard r.count) (kind_in rs other l)

unfoldable pub kind_of : ℕ → AnimInfoType
kind_of l = kind_in listings (pick (eqb l fleu) ExtendedUserData Invalid) l

-- ---- reading

abbrev pub word_under : AnimInfoType → ℕ → ℕ
word_under (Standard n) l = l
word_under ExtendedUserData l = l
word_under Invalid l = 0

-- the word that the record keeps for letters: themselves, or 0 where they are not listed
unfoldable pub letters_of : ℕ → ℕ
letters_of l = word_under (kind_of l) l

abbrev pub target_under : AnimInfoType → ℕ → ℕ
target_under (Standard n) raw = pick (ltb raw n) raw 0
target_under ExtendedUserData raw = 255
target_under Invalid raw = 255

-- a raw target number under letters: itself below their number, else 0; 255 under letters that are not listed
-- (and under FLEU, which has no targets, so that 255 is never used there)
unfoldable pub target_of : ℕ → ℕ → ℕ
target_of l raw = target_under (kind_of l) raw

-- ---- the record's limits

abbrev pub listed_in : List Listing → ℕ → Bool
listed_in [] l = false
listed_in (r ∷ rs) l = eqb l r.code || listed_in rs l

-- a letters word is a listed code, FLEU or 0
unfoldable pub letters_fit : ℕ → Bool
letters_fit l = listed_in listings l || (eqb l fleu || eqb l 0)

abbrev pub fits_under : AnimInfoType → ℕ → Bool
fits_under (Standard n) t = ltb t n
fits_under ExtendedUserData t = eqb t 255
fits_under Invalid t = eqb t 255

-- a target word is below its letters' number, or 255 under word 0 (and under FLEU, as above)
unfoldable pub target_fits : ℕ → ℕ → Bool
target_fits l t = fits_under (kind_of l) t
