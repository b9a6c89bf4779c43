use Rattle.round_trip.proofs.show_words.Goals as goal
