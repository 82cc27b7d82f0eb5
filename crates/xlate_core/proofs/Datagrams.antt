-- A datagram in its packet, and the same after it was written anew.
use Rattle.std.proofs.Common.{◌≡◌, ℕ, ◌+◌, ◌-◌, ◌≤◌, Bool, true, false, not, ◌==◌, List, [], ◌∷◌, ◌++◌, map, length, take, drop, Ok, refl}
use Rattle.std.proofs.Common.{sym, ap, ◌∙◌, length-append, arith}
use Rattle.std.proofs.lemmas.List.{append-nil, length-drop, length-take, drop_all, take_all}
use Rattle.std.proofs.Math.Seq.{drop-append_seam, take-append_seam}
use Rattle.std.proofs.lemmas.Bool.{eqb-true}
use borrow.Rule.Slice.PartMut.{put_mid}
use Rattle.aftr_base.specs.Attempt.{require}
use Rattle.aftr_base.specs.Bytes.{be16, be32, be128}
use Rattle.aftr_base.specs.declared.value.Ext.{Ext}
use Rattle.aftr_base.specs.declared.value.Proto.{Proto}
use Rattle.wire_ip4.specs.Grammar.{Header, header_bytes}
use Rattle.wire_ip6.specs.declared.fields.Ip6Fields.{Ip6Fields}
use Rattle.wire_ip6.specs.Grammar.{header_bytes as tunnel_header}
use Rattle.wire_l4.specs.Grammar.{Transport, transport_bytes, transport_in}
use Rattle.wire_l4.specs.Places.{replaced}
use Rattle.xlate_core.specs.Packet.{transport_behind}

-- ---- tests that passed

pub passes : {E : Type 0} (b : Bool) (e : E) (u : Unit {0}) → Ok u ≡ require b e → b ≡ true
passes true e u h = refl
passes false e u h = cc

same_test : (x b : Bool) → b ≡ not x → not b ≡ true → x ≡ true
same_test true b e h = refl
same_test false b e h = cc

nothing_in : (xs : List ℕ) → length xs ≡ 0 → xs ≡ []
nothing_in xs h = sym (take_all 0 xs (omega arith))

-- a header that was asked for options has none
pub bare_from : {E : Type 0} (options : List ℕ) (b : Bool) (e : E) (u : Unit {0}) → b ≡ not (length options == 0)
    → Ok u ≡ require (not b) e → options ≡ []
bare_from options b e u has ok =
    nothing_in options (eqb-true (length options) 0 (same_test (length options == 0) b has (passes (not b) e u ok)))

-- ---- a part of bytes that goes to their end

pub part_is : (n : ℕ) (xs : List ℕ) → n ≤ length xs → take (length xs - n) (drop n xs) ≡ drop n xs
part_is n xs le = take_all (length xs - n) (drop n xs) (omega (arith, length-drop n xs))

pub put_behind : (n : ℕ) (xs ys : List ℕ) → n ≤ length xs → put_mid n (length xs - n) xs ys ≡ take n xs ++ ys
put_behind n xs ys le =
    let none : drop (length xs - n) (drop n xs) ≡ [] = drop_all (length xs - n) (drop n xs) (omega (arith, length-drop n xs)) in
    rw (none, append-nil) refl

pub behind_taken : (n : ℕ) (xs ys : List ℕ) → n ≤ length xs → drop n (take n xs ++ ys) ≡ ys
behind_taken n xs ys le =
    let len : n ≡ length (take n xs) = omega (arith, length-take n xs, le) in
    ap (λ (k : ℕ). drop k (take n xs ++ ys)) len ∙ drop-append_seam (take n xs) ys

pub front_taken : (n : ℕ) (xs ys : List ℕ) → n ≤ length xs → take n (take n xs ++ ys) ≡ take n xs
front_taken n xs ys le =
    let len : n ≡ length (take n xs) = omega (arith, length-take n xs, le) in
    ap (λ (k : ℕ). take k (take n xs ++ ys)) len ∙ take-append_seam (take n xs) ys

-- a vector whose elements were all written
pub all_written : (n : ℕ) (xs ys : List ℕ) → n ≡ length xs → take n (xs ++ drop (length xs) ys) ≡ xs
all_written n xs ys len = ap (λ (k : ℕ). take k (xs ++ drop (length xs) ys)) len ∙ take-append_seam xs (drop (length xs) ys)

-- ---- behind a header without options

bare_len : (h : Header) → length (header_bytes (record h { options = [] })) ≡ 20
unfolding be16 be32
bare_len h = refl

pub head_len : (h : Header) → h.options ≡ [] → length (header_bytes h) ≡ 20
head_len h bare = ap (λ (o : List ℕ). length (header_bytes (record h { options = o }))) bare ∙ bare_len h

pub behind_is : (h : Header) (payload bytes : List ℕ) → h.options ≡ [] → bytes ≡ header_bytes h ++ payload → drop 20 bytes ≡ payload
behind_is h payload bytes bare so =
    ap (drop 20) so ∙ ap (λ (n : ℕ). drop n (header_bytes h ++ payload)) (sym (head_len h bare)) ∙ drop-append_seam (header_bytes h) payload

pub front_is : (h : Header) (payload bytes : List ℕ) → h.options ≡ [] → bytes ≡ header_bytes h ++ payload → take 20 bytes ≡ header_bytes h
front_is h payload bytes bare so =
    ap (take 20) so ∙ ap (λ (n : ℕ). take n (header_bytes h ++ payload)) (sym (head_len h bare)) ∙ take-append_seam (header_bytes h) payload

pub whole_len : (h : Header) (payload bytes : List ℕ) → h.options ≡ [] → bytes ≡ header_bytes h ++ payload
    → length bytes ≡ 20 + length payload
whole_len h payload bytes bare so =
    ap (λ (l : List ℕ). length l) so ∙ length-append (header_bytes h) payload ∙ ap (λ (n : ℕ). n + length payload) (head_len h bare)

-- the header and the payload that the vector was made of
pub made_of : (h : Header) (payload made joined header part : List ℕ) → made ≡ joined → joined ≡ header ++ part → header ≡ header_bytes h
    → part ≡ payload
    → made ≡ header_bytes h ++ payload
made_of h payload made joined header part a b c d = a ∙ b ∙ ap (λ (l : List ℕ). l ++ part) c ∙ ap (λ (l : List ℕ). header_bytes h ++ l) d

-- what the code reads behind the header is the datagram's transport
pub transport_there : (h : Header) (payload bytes : List ℕ) (proto : Proto) → h.options ≡ [] → bytes ≡ header_bytes h ++ payload
    → transport_behind proto bytes ≡ transport_in proto payload
transport_there h payload bytes proto bare so = ap (transport_in proto) (behind_is h payload bytes bare so)

-- the packet that was written
pub written : (h : Header) (payload bytes made : List ℕ) (n : ℕ) (proto : Proto) (source : Bool) (old place new : Ext) → h.options ≡ []
    → bytes ≡ header_bytes h ++ payload → old ≡ place
    → made ≡ take 20 bytes ++ transport_bytes (replaced source old new (transport_behind proto bytes)) → n ≡ length made
    → take n (made ++ drop (length made) bytes) ≡ header_bytes h ++ transport_bytes (replaced source place new (transport_in proto payload))
written h payload bytes made n proto source old place new bare so same put len =
    all_written n made bytes len ∙ put
    ∙ ap (λ (l : List ℕ). l ++ transport_bytes (replaced source old new (transport_behind proto bytes))) (front_is h payload bytes bare so)
    ∙ ap (λ (t : Transport). header_bytes h ++ transport_bytes (replaced source old new t)) (transport_there h payload bytes proto bare so)
    ∙ ap (λ (e : Ext). header_bytes h ++ transport_bytes (replaced source e new (transport_in proto payload))) same

-- ---- before an IPv6 header

tunnel_len : (f : Ip6Fields) → length (tunnel_header f) ≡ 40
unfolding be16 be32 be128
tunnel_len f = refl

pub carried_len : (f : Ip6Fields) (inner : List ℕ) → length (tunnel_header f ++ inner) ≡ 40 + length inner
carried_len f inner = length-append (tunnel_header f) inner ∙ ap (λ (n : ℕ). n + length inner) (tunnel_len f)

-- the one packet that was made is the last one
pub last_of : {X : Type 0} (f : X → List ℕ) (rest all : List X) (x : X) (y : List ℕ) → map f all ≡ y ∷ [] → all ≡ rest ++ x ∷ [] → f x ≡ y
last_of f [] all x y made last =
    let same : f x ∷ [] ≡ y ∷ [] = sym (ap (map f) last) ∙ made in
    cc
last_of f (r ∷ []) all x y made last =
    let two : f r ∷ f x ∷ [] ≡ y ∷ [] = sym (ap (map f) last) ∙ made in
    cc
last_of f (r ∷ q ∷ rest) all x y made last =
    let more : f r ∷ f q ∷ map f (rest ++ x ∷ []) ≡ y ∷ [] = sym (ap (map f) last) ∙ made in
    cc
