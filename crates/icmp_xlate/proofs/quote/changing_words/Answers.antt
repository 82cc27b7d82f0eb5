use Rattle.std.proofs.Common.{◌≡◌, ◌∷◌, List, ℕ, Some, None, sym, ap, ◌∙◌}
use Rattle.std.proofs.lemmas.List.{append-nil}
use Rattle.aftr_base.specs.Bytes.{u16_at}
use Rattle.wire_l4.specs.Places.{place_words}
use Rattle.icmp_xlate.proofs.Quotes.{four_words, words_read, front_there}
use Rattle.icmp_xlate.proofs.quote.changing_words.Goals as goal

pub returns-in-Some : goal.returns-in-Some
returns-in-Some c =
    let bytes : List ℕ = c.args.quoted.now in
    let four : c.push-4.new.self.items ≡ u16_at 10 bytes ∷ place_words c.args.place =
    four_words c.u16_in.result c.args.place c.words_of.result c.new-words.result.items c.push.new.self.items c.push-2.new.self.items
    c.push-3.new.self.items c.push-4.new.self.items c.words_of.ensures c.new-words.ensures c.push.ensures.items c.push-2.ensures.items
    c.push-3.ensures.items c.push-4.ensures.items
    ∙ ap (λ (n : ℕ). n ∷ place_words c.args.place) c.u16_in.ensures in
    record {
      value = λ q s.
          words_read bytes c.push-in-Some.new.self.items c.push-4.new.self.items q c.args.place (Some c.in-Some.sum) s four
          (sym c.in-Some.is ∙ c.front_sum.ensures.value q.front (front_there bytes q s)) c.push-in-Some.ensures.items;
    }

pub returns-in_default : goal.returns-in_default
returns-in_default c =
    let bytes : List ℕ = c.args.quoted.now in
    let four : c.push-4.new.self.items ≡ u16_at 10 bytes ∷ place_words c.args.place =
    four_words c.u16_in.result c.args.place c.words_of.result c.new-words.result.items c.push.new.self.items c.push-2.new.self.items
    c.push-3.new.self.items c.push-4.new.self.items c.words_of.ensures c.new-words.ensures c.push.ensures.items c.push-2.ensures.items
    c.push-3.ensures.items c.push-4.ensures.items
    ∙ ap (λ (n : ℕ). n ∷ place_words c.args.place) c.u16_in.ensures in
    record {
      value = λ q s.
          words_read bytes c.push-4.new.self.items c.push-4.new.self.items q c.args.place None s four
          (sym c.in_default.is ∙ c.front_sum.ensures.value q.front (front_there bytes q s)) (sym (append-nil c.push-4.new.self.items));
    }
