-- What a copy of the head says.
use Rattle.std.proofs.Common.{◌≡◌, ℕ, ◌^◌, ◌<◌, List, ◌++◌, length, take, drop, refl, sym, ◌∙◌, ap, subst, arith, rules, length-append, append_assoc}
use Rattle.std.specs.Int.{w64, to_be_bytes, from_be_bytes}
use Rattle.std.proofs.lemmas.List.{append-nil, drop_all, drop_at, places, take_at}
use Rattle.std.proofs.lemmas.Nat.{from_be_bytes-to_be_bytes_8}
use denote.Struct.Props.{props}
use borrow.Rule.Slice.PartMut.{put_mid}
use mathlib.Core.HLevel.{is_prop→PathP}
use Rattle.sha2.specs.Sha256.{sha256}
use Rattle.sha2.proofs.Facts256.{length-sha256}
use Rattle.sqlite_disk.specs.declared.Disk.{Ghosts}
use Rattle.registry_pack.specs.Extents.{AreApart}
use Rattle.registry_pack.specs.Standing.{Lasts, KeepsElsewhere}
use Rattle.registry_pack.specs.declared.head.Head.{Head}
use Rattle.registry_pack.specs.declared.head.HeadCopy.{HeadCopy}
use Rattle.registry_pack.specs.Heads.{OneStands, Says, head_bytes, head_text, offset_of, signed_bytes}
use Rattle.registry_pack.proofs.RangeLemmas.{range_is}

pub length-signed_bytes : (h : Head) → length (signed_bytes h) ≡ 43
unfolding signed_bytes
length-signed_bytes h =
    let age : length (to_be_bytes w64 h.age) ≡ 8 = refl in
    omega (arith, length-append head_text (h.mark ++ to_be_bytes w64 h.age), length-append h.mark (to_be_bytes w64 h.age), h.whole_mark)

-- a copy has 75 bytes
pub length-head_bytes : (h : Head) → length (head_bytes h) ≡ 75
unfolding head_bytes
length-head_bytes h = omega (arith, length-append (signed_bytes h) (sha256 (signed_bytes h)), length-signed_bytes h, length-sha256 (signed_bytes h))

-- a write behind the part that a list begins with
pub put_behind : (a k : ℕ) (xs ys zs : List ℕ) → length xs ≡ a → put_mid a k (xs ++ ys) zs ≡ xs ++ (zs ++ drop k ys)
put_behind a k xs ys zs size =
    ap (λ (l : List ℕ). l ++ (zs ++ drop k (drop a (xs ++ ys)))) (take_at xs ys a size)
    ∙ ap (λ (l : List ℕ). xs ++ (zs ++ drop k l)) (drop_at xs ys a size)

-- the text, the mark and the age, written one behind the other
pub signed_parts : (text mark age rest : List ℕ) → length text ≡ 19 → length mark ≡ 16 → length age ≡ 8 → length rest ≡ 24
    → put_mid 35 8 (put_mid 19 16 (text ++ rest) mark) age ≡ text ++ (mark ++ age)
signed_parts text mark age rest text_size mark_size age_size size =
    let front : length (text ++ mark) ≡ 35 = omega (arith, length-append text mark) in
    ap (λ (l : List ℕ). put_mid 35 8 l age) (put_behind 19 16 text rest mark text_size ∙ sym (append_assoc text mark (drop 16 rest)))
    ∙ put_behind 35 8 (text ++ mark) (drop 16 rest) age front
    ∙ ap (λ (l : List ℕ). text ++ mark ++ (age ++ l)) (drop_all 8 (drop 16 rest) (search (rules, places)))
    ∙ ap (λ (l : List ℕ). text ++ mark ++ l) (append-nil age)
    ∙ append_assoc text mark age

-- heads of one mark and one age are the same
pub Head-same : (h k : Head) → h.mark ≡ k.mark → h.age ≡ k.age → h ≡ k
Head-same h k mark age = λ i.
    record {
      mark = mark i;
      age = age i;
      whole_mark = is_prop→PathP (λ j. length (mark j) ≡ 16) (λ j. hlevel props) h.whole_mark k.whole_mark i;
      age_fits = is_prop→PathP (λ j. age j < 2 ^ 64) (λ j. hlevel props) h.age_fits k.age_fits i;
    }

head_parts : (h : Head) → head_bytes h ≡ head_text ++ (h.mark ++ (to_be_bytes w64 h.age ++ sha256 (signed_bytes h)))
unfolding head_bytes signed_bytes
head_parts h =
    append_assoc head_text (h.mark ++ to_be_bytes w64 h.age) (sha256 (signed_bytes h))
    ∙ ap (λ (l : List ℕ). head_text ++ l) (append_assoc h.mark (to_be_bytes w64 h.age) (sha256 (signed_bytes h)))

-- where the mark stands in a copy
pub mark_in : (bytes : List ℕ) (h : Head) → bytes ≡ head_bytes h → take 16 (drop 19 bytes) ≡ h.mark
mark_in bytes h is =
    let rest = to_be_bytes w64 h.age ++ sha256 (signed_bytes h) in
    ap (λ (l : List ℕ). take 16 (drop 19 l)) (is ∙ head_parts h)
    ∙ ap (take 16) (drop_at head_text (h.mark ++ rest) 19 refl)
    ∙ take_at h.mark rest 16 h.whole_mark

-- and the age
pub age_in : (bytes : List ℕ) (h : Head) → bytes ≡ head_bytes h → from_be_bytes w64 (take 8 (drop 35 bytes)) ≡ h.age
age_in bytes h is =
    let age = to_be_bytes w64 h.age in
    let digest = sha256 (signed_bytes h) in
    let front : length (head_text ++ h.mark) ≡ 35 = omega (arith, length-append head_text h.mark, h.whole_mark) in
    let there : take 8 (drop 35 bytes) ≡ age =
    ap (λ (l : List ℕ). take 8 (drop 35 l)) (is ∙ head_parts h ∙ sym (append_assoc head_text h.mark (age ++ digest)))
    ∙ ap (take 8) (drop_at (head_text ++ h.mark) (age ++ digest) 35 front)
    ∙ take_at age digest 8 refl in
    ap (from_be_bytes w64) there ∙ from_be_bytes-to_be_bytes_8 h.age h.age_fits

-- the bytes of a copy are of one head
pub head_bytes-same : (h k : Head) → head_bytes h ≡ head_bytes k → h ≡ k
head_bytes-same h k same =
    Head-same h k (sym (mark_in (head_bytes h) h refl) ∙ mark_in (head_bytes h) k same) (sym (age_in (head_bytes h) h refl) ∙ age_in (head_bytes h) k same)

-- a copy says one head
pub Says-same : (file : List ℕ) (copy : HeadCopy) (h k : Head) → Says file copy h → Says file copy k → h ≡ k
Says-same file copy h k says others =
    head_bytes-same h k
    (sym (range_is file (head_bytes h) (offset_of copy) 75 (length-head_bytes h) says)
    ∙ range_is file (head_bytes k) (offset_of copy) 75 (length-head_bytes k) others)

-- a head stays as it is through a call that changes other bytes
pub Says-elsewhere : {D : Type 0} (g : Ghosts D) (old new : D) (at n : ℕ) (copy : HeadCopy) (h : Head) → KeepsElsewhere g at n old new
    → AreApart at n (offset_of copy) 75 → Says (g.seen old) copy h → Says (g.seen new) copy h
Says-elsewhere g old new at n copy h others apart =
    others.stands (offset_of copy) (head_bytes h) (subst (AreApart at n (offset_of copy)) (sym (length-head_bytes h)) apart)

-- and lasts
pub Lasts-head_elsewhere : {D : Type 0} (g : Ghosts D) (old new : D) (at n : ℕ) (copy : HeadCopy) (h : Head) → KeepsElsewhere g at n old new
    → AreApart at n (offset_of copy) 75 → Lasts g old (offset_of copy) (head_bytes h) → Lasts g new (offset_of copy) (head_bytes h)
Lasts-head_elsewhere g old new at n copy h others apart =
    others.lasts (offset_of copy) (head_bytes h) (subst (AreApart at n (offset_of copy)) (sym (length-head_bytes h)) apart)

pub OneStands-same : {D : Type 0} (g : Ghosts D) (old new : D) (h k : Head) → h.mark ≡ k.mark → h.age ≡ k.age → OneStands g old new k → OneStands g old new h
OneStands-same g old new h k mark age stands = subst (λ (x : Head). OneStands g old new x) (sym (Head-same h k mark age)) stands
