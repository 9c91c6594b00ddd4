-- `utf8::decode_known` meets its contract.
-- Assumes nothing.
use Prim.Native.Nat.{ℕ, ◌+◌, ◌<◌, ◌≤◌, min}
use mathlib.Core.Path.{◌≡◌, refl, sym, ap, ◌∙◌}
use mathlib.Core.Bool.{Bool, true, false, true≢false}
use mathlib.Core.List.{List}
use native.Mathlib.Omega.{arith}
use lib.ListN.{length}
use lib.Seq.{sets}
use Rattle.base.specs.Choice.{pick}
use Rattle.base.specs.Utf8.{decode, decoded_size, replacements}
use Rattle.base.specs.inner.Scan.{ascii_seen}
use Rattle.base.proofs.utf8.Turns.{seen_ascii, ascii_decode, ascii_size, ascii_none}
use Rattle.base.proofs.utf8.decode_known.Goals as goal
use Rattle.base.proofs.utf8.decode_known.Goals.{then-not-plain+else-not-is_ascii, else-not-plain}

-- a text that is known or seen to be shown as it is
as_it_is : (s : List ℕ) (plain : Bool) (before : ℕ) → length s < 18446744073709551616 → before ≤ 18446744073709551615 → (plain ≡ false → ascii_seen s ≡ true)
    → (length s ≡ pick plain (length s) (decoded_size s)) × (before ≡ min (before + pick plain 0 (replacements s)) 18446744073709551615) × (s ≡ pick plain s (decode s))
as_it_is s true before h b e = (refl, omega arith, refl)
as_it_is s false before h b e = let f = seen_ascii s (e refl) in let n = ascii_none s f in (ascii_size s h f, omega arith, sym (ascii_decode s f))

pub returns : goal.returns
returns c =
    let f = as_it_is c.args.text.now c.args.plain c.args.before (omega (arith, c.well_formed)) (omega (arith, c.well_formed)) (λ p. elim c.if-not-plain.branch [ then-not-plain+else-not-is_ascii w ↦ sym w.is_ascii.ensures ∙ w.if-not-is_ascii.false | else-not-plain w ↦ absurd (true≢false (sym w.if-not-plain.false ∙ p)) ]) in
    (f.0, f.1, c.copy.ensures ∙ ap (sets c.args.out.now c.args.at) f.2)
