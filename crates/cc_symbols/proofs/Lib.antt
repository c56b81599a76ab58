mod GrownPlaces
